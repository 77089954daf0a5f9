use Rattle.std.proofs.Common.{◌≡◌, true, rules, subst, sym}
use Rattle.std.specs.FinMap.{get}
use Rattle.bep_machine.specs.Peer.{Session}
use Rattle.bep_machine.specs.Replica.{ByDevice}
use Rattle.bep_peer.specs.Member.{IsMember}
use Rattle.bep_peer.proofs.ConfigFacts.{all_shared_by, member_configured, session_of}
use Rattle.bep_peer.proofs.MemberFacts.{member_of}
use Rattle.bep_peer.proofs.RenewFacts.{member_framed}
use Rattle.bep_peer.proofs.peer.Peer.take_config.Goals as goal

pub renew_all-requires : goal.renew_all-requires
renew_all-requires g c =
    let yes : c.can_take.result ≡ true = search rules in
    let there = rw (← c.self.view_is) at c.can_take.ensures.there in
    let value = rw (← c.self.view_is) at c.can_take.ensures.value in
    let old = member_of c.self.inside.number c.self.inside.folders c.self.inside.sessions c.self.inside.linked c.self.inside.trace in
    let session = session_of (get c.self.inside.sessions c.args.other) (there yes) in
    record { shared = all_shared_by old c.args.other c.args.named.now ((value session.0 session.1).0 yes).shared }

pub invariant_of-self : goal.invariant_of-self
invariant_of-self g c = member_framed c.self.inside.number c.self.inside.folders c.renew_all.new.folders c.self.inside.sessions c.self.inside.linked c.renew_all.ensures.framed c.self.invariant

pub configure-requires : goal.configure-requires
configure-requires g c =
    let yes : c.can_take.result ≡ true = search rules in
    let there = rw (← c.self.view_is) at c.can_take.ensures.there in there yes

pub invariant_of-self-2 : goal.invariant_of-self-2
invariant_of-self-2 g c =
    let yes : c.can_take.result ≡ true = search rules in
    let there = rw (← c.self.view_is) at c.can_take.ensures.there in
    let value = rw (← c.self.view_is) at c.can_take.ensures.value in
    let old = member_of c.self.inside.number c.self.inside.folders c.self.inside.sessions c.self.inside.linked c.self.inside.trace in
    let session = session_of (get c.self.inside.sessions c.args.other) (there yes) in
    let shared = all_shared_by old c.args.other c.args.named.now ((value session.0 session.1).0 yes).shared in
    subst (λ (sessions : ByDevice Session). IsMember c.self.inside.number c.renew_all.new.folders sessions c.self.inside.linked) (sym (c.configure.ensures session.0 session.1))
    (member_configured c.self.inside.number c.self.inside.folders c.renew_all.new.folders c.self.inside.sessions c.self.inside.linked c.args.other session.0 c.args.named.now c.in_ok-cursors.cursors
    c.renew_all.ensures.framed shared c.in_ok-cursors.ensures c.self.invariant)
