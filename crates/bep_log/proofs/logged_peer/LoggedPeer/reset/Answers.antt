use Rattle.std.proofs.Common.{rules, ◌≡◌, ◌∙◌, Err, ap, subst}
use Rattle.bep_machine.specs.Steps.{HasIdFrom, reset_to}
use Rattle.bep_peer.specs.Member.{tables_of, untold}
use Rattle.bep_log.specs.History.{History}
use Rattle.bep_log.specs.LoggedPeer.{LoggedMember}
use Rattle.bep_log.proofs.LinkFacts.{device_reset, still_replayed}
use Rattle.bep_log.proofs.logged_peer.LoggedPeer.reset.Goals as goal

pub invariant_of-self-in-Err : goal.invariant_of-self-in-Err
invariant_of-self-in-Err g c =
    let as_it_was : c.reset.new.self ≡ untold c.self.inside.peer = search rules in
    still_replayed c.self.inside.base c.self.inside.peer c.reset.new.self c.self.inside.history.log c.open.new.self.log c.self.invariant (ap (λ (h : History). h.log) c.open.ensures.same) as_it_was

pub invariant_of-self-in-Ok : goal.invariant_of-self-in-Ok
invariant_of-self-in-Ok g c =
    let above : ¬ HasIdFrom c.args.id (tables_of c.self.inside.peer) = search rules in
    let made : tables_of c.reset.new.self ≡ reset_to c.args.id (tables_of c.self.inside.peer) = search rules in
    device_reset c.actions_are_told.ensures.reset c.args.id
    c.self.inside.base c.self.inside.peer c.reset.new.self c.self.inside.history.log c.open.new.self.log c.tell.new.self.log c.args.ticket c.number.result c.event_in_folder-event.result
    above
    c.self.invariant (ap (λ (h : History). h.log) c.open.ensures.same) c.tell.ensures.log c.event_in_folder-event.ensures c.number.ensures c.reset.ensures.rest made

pub returns-in-Ok : goal.returns-in-Ok
returns-in-Ok g c =
    let above : ¬ HasIdFrom c.args.id (tables_of c.self.inside.peer) = search rules in
    record { logs = (search rules, subst (λ (m : LoggedMember). ¬ HasIdFrom c.args.id (tables_of m.now)) c.self.view_is above, search rules, search rules, search rules) }

pub returns-in-Err : goal.returns-in-Err
returns-in-Err g c =
    let has : HasIdFrom c.args.id (tables_of c.self.inside.peer) = c.in-Err.ensures.old.0 (ap Err c.in-Err.ensures.only) in
    let kept = c.open.ensures.same in
    record {
      logs = (
        search rules,
        subst (λ (m : LoggedMember). HasIdFrom c.args.id (tables_of m.now)) c.self.view_is has,
        (λ i. record { now = c.in-Err.ensures.err i; base = c.self.inside.base; log = (kept i).log; round = (kept i).round; last = (kept i).last })
            ∙ ap (λ (m : LoggedMember). record m { now = untold m.now }) c.self.view_is,
      );
    }
