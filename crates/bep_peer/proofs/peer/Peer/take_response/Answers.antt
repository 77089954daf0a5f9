use Rattle.std.proofs.Common.{◌≡◌, ◌∙◌, Some, Ok, ap, sym, subst, refl}
use Rattle.bep_machine.specs.Exchange.{ResponseRow}
use Rattle.bep_machine.specs.Peer.{Session}
use Rattle.bep_machine.specs.Replica.{ByDevice}
use Rattle.bep_peer.specs.declared.taking.effect.Effect.TheVariants.{Taken}
use Rattle.bep_peer.specs.inner.Effect.{Takes}
use Rattle.bep_peer.specs.Member.{Member, IsMember, tables_of}
use Rattle.bep_peer.proofs.MemberFacts.{member_of}
use Rattle.bep_peer.proofs.ResponseFacts.{brought_member, brought_remains, response_taken, unchanged_member, unchanged_peer, unchanged_remains}
use Rattle.bep_peer.proofs.peer.Peer.take_response.Goals as goal

pub invariant_of-self : goal.invariant_of-self
invariant_of-self g c =
    let has = sym c.in-Some.ensures in
    subst (λ (sessions : ByDevice Session). IsMember c.self.inside.number c.bring.new.folders sessions c.self.inside.linked) (sym (c.answered.ensures c.in-Some.session.now has))
    (brought_member c.self.inside.number c.self.inside.folders c.bring.new.folders c.self.inside.sessions c.self.inside.linked c.args.other c.in-Some.session.now c.in-Some-asked.request.now c.args.response.now
    has c.in-Ok.ensures.ok c.self.invariant)

pub invariant_of-self-in-Err : goal.invariant_of-self-in-Err
invariant_of-self-in-Err g c =
    unchanged_member c.self.inside.number c.self.inside.sessions c.self.inside.linked c.in-Some-asked.request.now.folder c.self.inside.folders c.bring.new.folders
    c.in-Err.ensures.err c.self.invariant

pub returns-in-Ok-clause-step : goal.returns-in-Ok-clause-step
returns-in-Ok-clause-step g c =
    rw (← c.self.view_is)
    (λ full session has.
    let there : Some c.in-Some.session.now ≡ Some session = c.in-Some.ensures ∙ has in
    let same : c.in-Some.session.now ≡ session = cc in
    let old = member_of c.self.inside.number c.self.inside.folders c.self.inside.sessions c.self.inside.linked c.self.inside.trace in
    let new = member_of c.self.inside.number c.bring.new.folders c.answered.new.sessions c.self.inside.linked c.self.inside.trace in
    subst (λ (s : Session). Takes (ResponseRow c.args.other s c.args.response.now (tables_of old)) old new (Ok Taken)) same
    (response_taken c.args.other c.in-Some.session.now c.in-Some-asked.request.now c.args.response.now old new
    (sym c.in-Some-asked.ensures.value) c.in-Ok.ensures.ok (c.answered.ensures c.in-Some.session.now (sym c.in-Some.ensures))))

pub returns-in-Ok-clause-rest : goal.returns-in-Ok-clause-rest
returns-in-Ok-clause-rest g c =
    let told = ap (λ (m : Member). m.trace) c.self.view_is ∙ c.requires.untold in
    rw (← c.self.view_is)
    (brought_remains _ _ c.in-Some-asked.request.now c.args.response.now c.in-Ok.ensures.ok refl refl told)

pub returns-in-Err-clause-step : goal.returns-in-Err-clause-step
returns-in-Err-clause-step g c = λ full session has.
    rw (← c.self.view_is)
    (unchanged_peer c.self.inside.sessions c.in-Some-asked.request.now.folder c.self.inside.folders c.bring.new.folders c.in-Err.ensures.err)

pub returns-in-Err-clause-rest : goal.returns-in-Err-clause-rest
returns-in-Err-clause-rest g c =
    let told = ap (λ (m : Member). m.trace) c.self.view_is ∙ c.requires.untold in
    rw (← c.self.view_is)
    (unchanged_remains _ _ c.in-Some-asked.request.now.folder c.in-Err.ensures.err refl refl told)

pub returns-in-Err-clause-err : goal.returns-in-Err-clause-err
returns-in-Err-clause-err g c =
    rw (← c.self.view_is)
    (unchanged_peer c.self.inside.sessions c.in-Some-asked.request.now.folder c.self.inside.folders c.bring.new.folders c.in-Err.ensures.err)
