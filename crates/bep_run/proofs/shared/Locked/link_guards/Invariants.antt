use Rattle.std.proofs.Common.{◌≡◌, length}
use Rattle.bep_run.proofs.shared.Locked.link_guards.Given as goal

-- so many guards are held as locks were passed
abbrev pub invariant-loop-joint : goal.invariant-loop-joint
invariant-loop-joint g l = length l.guards.items ≡ l.joint-index
