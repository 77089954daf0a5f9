use Rattle.std.proofs.Common.{◌≡◌, ◌++◌, take, drop}
use Rattle.bep_machine.specs.Exchange.{asked_for, without}
use Rattle.bep_peer.proofs.requests.place_of.Given as goal

-- none of the requests so far has the number
abbrev pub invariant-loop-place : goal.invariant-loop-place
invariant-loop-place l =
    (asked_for l.id (drop l.place l.requests) ≡ asked_for l.id l.requests) ×
    (take l.place l.requests ++ without l.id (drop l.place l.requests) ≡ without l.id l.requests)
