use Rattle.std.proofs.Common.{◌∙◌, Err, ap, sym, subst}
use Rattle.std.proofs.lemmas.Result.{err_from_is_err_and}
use Rattle.bep_links.specs.Side.{end_at}
use Rattle.bep_machine.specs.Link.{end_of}
use Rattle.bep_peer.specs.Member.{Member}
use Rattle.bep_peer.specs.declared.error.PeerError.{PeerError}
use Rattle.bep_peer.specs.Unhidden.{GoesOn}
use Rattle.bep_peer.proofs.Unrefused.{delivers_unrefused, wanted}
use Rattle.bep_peer.proofs.DeliverFacts.{not_at_hand, not_begun, refused_first, delivered, remains_untold, remains_told, answer_told}
use Rattle.bep_peer.proofs.StepFacts.{begun_remains}
use Rattle.bep_peer.proofs.peer.Peer.deliver.Goals as goal

pub returns-in_default-clause-step : goal.returns-in_default-clause-step
returns-in_default-clause-step g c =
    not_at_hand (record { member = c.args.self.now; link = c.args.link.now }) c.tell_nothing.new.self c.tell_nothing.ensures c.tell_nothing.new.self.trace.failed c.in_default.ensures.none

pub returns-in_err-must_be_in_session-clause-step :
    goal.returns-in_err-must_be_in_session-clause-step
returns-in_err-must_be_in_session-clause-step g c =
    let error = err_from_is_err_and c.from_residual.result c.from_residual.ensures.1 in
    rw (error.1, error.2)
    (not_begun (record { member = c.args.self.now; link = c.args.link.now }) c.tell_nothing.new.self c.tell_nothing.ensures c.tell_nothing.new.self.trace.failed c.in-Some.other
    c.in_err-must_be_in_session.field-0.0 c.in-Some.ensures.some c.in_err-must_be_in_session.ensures.refused)

pub returns-in_err-effect-clause-step : goal.returns-in_err-effect-clause-step
returns-in_err-effect-clause-step g c =
    let error = err_from_is_err_and c.from_residual-in_err-effect.result c.from_residual-in_err-effect.ensures.1 in
    let over = c.in_ok-must_be_in_session.ensures.ok in
    rw (error.1, error.2)
    (refused_first (record { member = c.args.self.now; link = c.args.link.now }) c.tell_nothing.new.self c.tell_nothing.ensures c.in-Some.other c.in-Some.ensures.some
    c.in_ok-must_be_in_session.field-0.now over (end_at c.side_of-side.result) (c.side_of-side.ensures ∙ ap (λ (m : Member). end_of m.number c.in-Some.other) c.self.view_is) c.take_first.new.self
    c.in_err-effect.field-0.0 (c.in_err-effect.ensures.step c.in_ok-must_be_in_session.field-0.now over.current.0) c.in_err-effect.ensures.err c.in_err-effect.ensures.told)

pub returns-in_default-clause-rest : goal.returns-in_default-clause-rest
returns-in_default-clause-rest g c = begun_remains c.args.self.now c.tell_nothing.new.self c.tell_nothing.ensures

pub returns-in_err-must_be_in_session-clause-rest :
    goal.returns-in_err-must_be_in_session-clause-rest
returns-in_err-must_be_in_session-clause-rest g c = begun_remains c.args.self.now c.tell_nothing.new.self c.tell_nothing.ensures

pub returns-in_err-effect-clause-rest : goal.returns-in_err-effect-clause-rest
returns-in_err-effect-clause-rest g c = remains_untold c.args.self.now c.tell_nothing.new.self c.take_first.new.self c.tell_nothing.ensures c.in_err-effect.ensures.rest

pub returns-in_err-moved-clause-rest : goal.returns-in_err-moved-clause-rest
returns-in_err-moved-clause-rest g c = remains_untold c.args.self.now c.tell_nothing.new.self c.take_first.new.self c.tell_nothing.ensures c.in_ok-effect.ensures.rest

pub returns-clause-step : goal.returns-clause-step
returns-clause-step g c =
    let over = c.in_ok-must_be_in_session.ensures.ok in
    rw c.tell_sent.ensures
    (delivered (record { member = c.args.self.now; link = c.args.link.now }) c.tell_nothing.new.self c.tell_nothing.ensures c.in-Some.other c.in-Some.ensures.some
    c.in_ok-must_be_in_session.field-0.now over (end_at c.side_of-side.result) (c.side_of-side.ensures ∙ ap (λ (m : Member). end_of m.number c.in-Some.other) c.self.view_is) c.take_first.new.self
    c.in_ok-effect.effect c.in_ok-moved.moved c.in_ok-moved.put c.carry_out.new.link (c.in_ok-effect.ensures.step c.in_ok-must_be_in_session.field-0.now over.current.0)
    c.in_ok-moved.ensures.ok.0 c.in_ok-moved.ensures.ok.1 c.in_ok-moved.ensures.ok.2)

pub returns-clause-rest : goal.returns-clause-rest
returns-clause-rest g c = remains_told c.args.self.now c.tell_nothing.new.self c.take_first.new.self c.tell_sent.new.self c.in_ok-moved.put c.tell_nothing.ensures c.in_ok-effect.ensures.rest c.tell_sent.ensures

pub returns-clause-fault : goal.returns-clause-fault
returns-clause-fault g c =
    rw c.tell_sent.ensures
    (answer_told c.take_first.new.self.trace c.in_ok-effect.effect c.in_ok-moved.put c.in_ok-moved.moved c.in_ok-effect.ensures.told c.in_ok-moved.ensures.ok.1)

pub returns-in_err-must_be_in_session-clause-unhidden : goal.returns-in_err-must_be_in_session-clause-unhidden
returns-in_err-must_be_in_session-clause-unhidden g c = λ wants.
    let error = err_from_is_err_and c.from_residual.result c.from_residual.ensures.1 in
    absurd (c.in_err-must_be_in_session.ensures.only (wanted c.from_residual.result c.in_err-must_be_in_session.field-0.0 (error.1 ∙ ap Err error.2) wants))

pub returns-in_err-effect-clause-unhidden : goal.returns-in_err-effect-clause-unhidden
returns-in_err-effect-clause-unhidden g c = λ wants.
    let error = err_from_is_err_and c.from_residual-in_err-effect.result c.from_residual-in_err-effect.ensures.1 in
    let is = wanted c.from_residual-in_err-effect.result c.in_err-effect.field-0.0 (error.1 ∙ ap Err error.2) wants in
    let over = c.in_ok-must_be_in_session.ensures.ok in
    delivers_unrefused (record { member = c.args.self.now; link = c.args.link.now }) c.tell_nothing.new.self c.in-Some.other c.tell_nothing.ensures c.in-Some.ensures.some c.take_first.new.self.trace.failed c.in_ok-must_be_in_session.field-0.now over
    (end_at c.side_of-side.result) (c.side_of-side.ensures ∙ ap (λ (m : Member). end_of m.number c.in-Some.other) c.self.view_is)
    (c.in_err-effect.ensures.unhidden (subst (λ (e : PeerError). GoesOn {T = Unit {0}} (Err e)) (sym is) tt) c.in_ok-must_be_in_session.field-0.now over.current.0)

pub returns-in_err-moved-clause-unhidden : goal.returns-in_err-moved-clause-unhidden
returns-in_err-moved-clause-unhidden g c = λ wants.
    let over = c.in_ok-must_be_in_session.ensures.ok in
    delivers_unrefused (record { member = c.args.self.now; link = c.args.link.now }) c.tell_nothing.new.self c.in-Some.other c.tell_nothing.ensures c.in-Some.ensures.some c.take_first.new.self.trace.failed c.in_ok-must_be_in_session.field-0.now over
    (end_at c.side_of-side.result) (c.side_of-side.ensures ∙ ap (λ (m : Member). end_of m.number c.in-Some.other) c.self.view_is)
    (c.in_ok-effect.ensures.unhidden tt c.in_ok-must_be_in_session.field-0.now over.current.0)
