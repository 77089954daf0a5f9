use Rattle.std.proofs.Common.{◌≡◌, ◌≤◌, take}
use Rattle.std.specs.Vec.{vec_capacity}
use Rattle.bep_machine.specs.declared.limits.TheConstants.{MAX_OUTSTANDING}
use Rattle.bep_peer.proofs.session.copies_of.Given as goal

-- the requests so far were copied, and there is room for as many as a session can have
abbrev pub invariant-loop-request : goal.invariant-loop-request
invariant-loop-request l = (l.made.items ≡ take l.request-index l.requests) × (MAX_OUTSTANDING ≤ vec_capacity l.made)
