use Rattle.std.proofs.Common.{rules, inl, inr, refl}
use Rattle.bep_peer.proofs.BeginFacts.{from_some}
use Rattle.bep_peer.proofs.peer.Peer.may_begin.Goals as goal

pub returns-then-is_some-clause-refused : goal.returns-then-is_some-clause-refused
returns-then-is_some-clause-refused g c =
    let there = from_some c.current.result _ c.current.ensures.some (search rules) in
    inr (search rules, inl ((there.0.now, there.1), (refl, refl)))
