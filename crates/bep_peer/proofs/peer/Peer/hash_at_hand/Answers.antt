use Rattle.std.proofs.Common.{sym, ap, subst}
use Rattle.bep_map.specs.NameMap.{ByName}
use Rattle.bep_folder.specs.Held.{Held}
use Rattle.bep_peer.specs.Member.{IsMember}
use Rattle.bep_peer.proofs.peer.Peer.hash_at_hand.Goals as goal

pub invariant_of-self : goal.invariant_of-self
invariant_of-self g c =
    subst (λ (folders : ByName Held). IsMember c.self.inside.number folders c.self.inside.sessions c.self.inside.linked) (sym c.hash_at.ensures.same) c.self.invariant

pub returns-clause-hash : goal.returns-clause-hash
returns-clause-hash g c = rw (← c.self.view_is) c.hash_at.ensures.hash

pub returns-clause-same : goal.returns-clause-same
returns-clause-same g c =
    rw (← c.self.view_is)
    (ap (λ (folders : ByName Held). record { number = c.self.inside.number; folders = folders; sessions = c.self.inside.sessions; linked = c.self.inside.linked; trace = c.self.inside.trace }) c.hash_at.ensures.same)
