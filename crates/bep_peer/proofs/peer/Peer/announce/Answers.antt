use Rattle.std.proofs.Common.{◌≡◌, ◌∙◌, Some, Err, ap, sym, subst}
use Rattle.std.proofs.lemmas.Result.{err_from_is_err_and}
use Rattle.std.specs.FinMap as map
use Rattle.bep_machine.specs.Exchange.{AnnounceRow, IsNamed}
use Rattle.bep_machine.specs.Peer.{Session}
use Rattle.bep_peer.specs.inner.InSession.{with_sent}
use Rattle.bep_peer.specs.Lent.{NamesFolder}
use Rattle.bep_peer.specs.Member.{Member}
use Rattle.bep_peer.specs.declared.error.PeerError.{PeerError}
use Rattle.bep_peer.specs.Unhidden.{GoesOn}
use Rattle.bep_peer.proofs.Unrefused.{unrefused_over, wanted}
use Rattle.bep_peer.proofs.StepFacts.{begun_remains, refused_as_not_shared, refused_as, sent_as, sent_only, sent_remains}
use Rattle.bep_peer.proofs.peer.Peer.announce.Given.{Over}
use Rattle.bep_peer.proofs.peer.Peer.announce.Goals as goal

pub returns-in_default-clause-step : goal.returns-in_default-clause-step
returns-in_default-clause-step g c =
    refused_as_not_shared (λ other. AnnounceRow other c.args.folder.now) (NamesFolder c.args.folder.now) (record { member = c.args.self.now; link = c.args.link.now }) c.tell_nothing.new.self c.tell_nothing.ensures c.in_default.ensures.none

pub returns-in_err-sequence-clause-step : goal.returns-in_err-sequence-clause-step
returns-in_err-sequence-clause-step g c =
    let error = err_from_is_err_and c.from_residual.result c.from_residual.ensures.1 in
    rw (error.1, error.2)
    (refused_as (λ other. AnnounceRow other c.args.folder.now) (NamesFolder c.args.folder.now) (record { member = c.args.self.now; link = c.args.link.now }) c.tell_nothing.new.self c.in-Some.other c.in_err-sequence.field-0.0 c.tell_nothing.ensures c.in-Some.ensures.some.0 c.in-Some.ensures.some.1 c.in_err-sequence.ensures.refused)

pub keep_sent-requires : goal.keep_sent-requires
keep_sent-requires g c =
    let next = c.in_ok-sequence.ensures.ok in
    subst (λ (member : Member). (session : Session) × (map.get member.sessions c.in-Some.other ≡ Some session) × IsNamed session c.args.folder.now) (sym c.in_ok-send_told.ensures.ok.0) (next.session, next.over.current.0, next.named)

pub returns-in_default-clause-rest : goal.returns-in_default-clause-rest
returns-in_default-clause-rest g c = begun_remains c.args.self.now c.tell_nothing.new.self c.tell_nothing.ensures

pub returns-in_err-sequence-clause-rest : goal.returns-in_err-sequence-clause-rest
returns-in_err-sequence-clause-rest g c = begun_remains c.args.self.now c.tell_nothing.new.self c.tell_nothing.ensures

pub returns-in_err-send_told-clause-rest : goal.returns-in_err-send_told-clause-rest
returns-in_err-send_told-clause-rest g c = begun_remains c.args.self.now c.send_told.new.self (c.in_err-send_told.ensures.err.0 ∙ c.tell_nothing.ensures)

-- the session of the one that was sent to
kept : (g : Over) (c : goal.After-keep_sent g) → c.keep_sent.new.self ≡ record c.send_told.new.self { sessions = map.insert c.send_told.new.self.sessions c.in-Some.other (with_sent c.in_ok-sequence.ensures.ok.session c.args.folder.now c.in_ok-sequence.sequence) }
kept g c =
    let next = c.in_ok-sequence.ensures.ok in
    let has = subst (λ (member : Member). map.get member.sessions c.in-Some.other ≡ Some next.session) (sym c.in_ok-send_told.ensures.ok.0) next.over.current.0 in
    c.keep_sent.ensures next.session has next.named

pub returns-clause-step : goal.returns-clause-step
returns-clause-step g c =
    let next = c.in_ok-sequence.ensures.ok in
    let sent = c.in_ok-send_told.ensures.ok in
    sent_as (λ other. AnnounceRow other c.args.folder.now) (NamesFolder c.args.folder.now) (record { member = c.args.self.now; link = c.args.link.now }) c.tell_nothing.new.self c.send_told.new.self c.keep_sent.new.self c.send_told.new.link c.in-Some.other
    (with_sent next.session c.args.folder.now c.in_ok-sequence.sequence) c.in_ok-sequence.message c.tell_nothing.ensures c.in-Some.ensures.some.0 c.in-Some.ensures.some.1 next.made sent.0 sent.1 (kept g c)

pub returns-clause-rest : goal.returns-clause-rest
returns-clause-rest g c = sent_remains c.args.self.now c.tell_nothing.new.self c.send_told.new.self c.keep_sent.new.self _ _ c.tell_nothing.ensures c.in_ok-send_told.ensures.ok.0 (kept g c)

pub returns-clause-only : goal.returns-clause-only
returns-clause-only g c = sent_only c.args.self.now c.tell_nothing.new.self c.send_told.new.self c.keep_sent.new.self _ _ c.tell_nothing.ensures c.in_ok-send_told.ensures.ok.0 (kept g c)

pub returns-in_err-sequence-clause-unhidden : goal.returns-in_err-sequence-clause-unhidden
returns-in_err-sequence-clause-unhidden g c = λ wants.
    let error = err_from_is_err_and c.from_residual.result c.from_residual.ensures.1 in
    let is = wanted c.from_residual.result c.in_err-sequence.field-0.0 (error.1 ∙ ap Err error.2) wants in
    unrefused_over (λ other. AnnounceRow other c.args.folder.now) (NamesFolder c.args.folder.now) (record { member = c.args.self.now; link = c.args.link.now }) c.tell_nothing.new.self c.in-Some.other c.tell_nothing.ensures c.in-Some.ensures.some.0 c.in-Some.ensures.some.1
    (c.in_err-sequence.ensures.unhidden (subst (λ (e : PeerError). GoesOn {T = Unit {0}} (Err e)) (sym is) tt))

pub returns-in_err-send_told-clause-unhidden : goal.returns-in_err-send_told-clause-unhidden
returns-in_err-send_told-clause-unhidden g c = λ wants.
    unrefused_over (λ other. AnnounceRow other c.args.folder.now) (NamesFolder c.args.folder.now) (record { member = c.args.self.now; link = c.args.link.now }) c.tell_nothing.new.self c.in-Some.other c.tell_nothing.ensures c.in-Some.ensures.some.0 c.in-Some.ensures.some.1
    (c.in_ok-sequence.ensures.unhidden tt)
