use Rattle.std.proofs.Common.{◌≡◌, length}
use Rattle.bep_run.proofs.shared.Locked.peer_guards.Given as goal

-- so many guards are held as locks were passed
abbrev pub invariant-loop-held : goal.invariant-loop-held
invariant-loop-held g l = length l.guards.items ≡ l.held-index
