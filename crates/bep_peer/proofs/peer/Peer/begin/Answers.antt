use Rattle.std.proofs.Common.{◌∙◌, Err, ap}
use Rattle.std.proofs.lemmas.Result.{err_from_is_err_and}
use Rattle.bep_machine.specs.Exchange.{BeginRow}
use Rattle.bep_machine.specs.Link.{end_of, sight_of}
use Rattle.bep_peer.specs.Lent.{NamesNone}
use Rattle.bep_peer.specs.Member.{tables_of}
use Rattle.bep_peer.proofs.BeginFacts.{refused_first, opened_as}
use Rattle.bep_peer.proofs.StepFacts.{refused_as_not_shared}
use Rattle.bep_peer.proofs.Unrefused.{begin_unrefused, unrefused_over, wanted}
use Rattle.bep_peer.proofs.peer.Peer.begin.Goals as goal

pub returns-in_default-clause-step : goal.returns-in_default-clause-step
returns-in_default-clause-step g c =
    refused_as_not_shared BeginRow NamesNone (record { member = c.args.self.now; link = c.args.link.now }) c.tell_nothing.new.self c.tell_nothing.ensures (λ there. c.in_default.ensures.none there.0 there.1)

pub returns-in_err-may_begin-clause-step : goal.returns-in_err-may_begin-clause-step
returns-in_err-may_begin-clause-step g c =
    let error = err_from_is_err_and c.from_residual.result c.from_residual.ensures.1 in
    rw (error.1, error.2)
    (refused_first (record { member = c.args.self.now; link = c.args.link.now }) c.tell_nothing.new.self c.in-Some.other c.in_err-may_begin.field-0.0 c.tell_nothing.ensures c.in-Some.ensures.some c.in_err-may_begin.ensures.refused)

pub returns-clause-step : goal.returns-clause-step
returns-clause-step g c =
    opened_as (record { member = c.args.self.now; link = c.args.link.now }) c.tell_nothing.new.self c.open_session.new.self c.open_session.new.link c.in-Some.other c.tell_nothing.ensures c.in-Some.ensures.some
    c.in_ok-may_begin.ensures.ok c.in_ok-open_session.ensures.ok.0 c.in_ok-open_session.ensures.ok.1

pub returns-in_err-may_begin-clause-unhidden : goal.returns-in_err-may_begin-clause-unhidden
returns-in_err-may_begin-clause-unhidden g c = λ wants.
    let error = err_from_is_err_and c.from_residual.result c.from_residual.ensures.1 in
    absurd (c.in_err-may_begin.ensures.only (wanted c.from_residual.result c.in_err-may_begin.field-0.0 (error.1 ∙ ap Err error.2) wants))

pub returns-in_err-open_session-clause-unhidden : goal.returns-in_err-open_session-clause-unhidden
returns-in_err-open_session-clause-unhidden g c = λ wants.
    unrefused_over BeginRow NamesNone (record { member = c.args.self.now; link = c.args.link.now }) c.tell_nothing.new.self c.in-Some.other c.tell_nothing.ensures c.in-Some.ensures.some tt
    (begin_unrefused c.in-Some.other (sight_of (end_of c.tell_nothing.new.self.number c.in-Some.other) c.args.link.now.link) (tables_of c.tell_nothing.new.self) c.in_ok-may_begin.ensures.ok)
