use Rattle.std.proofs.Common.{◌≡◌, ◌++◌}
use Rattle.std.specs.Map.{keys_of}
use Rattle.bep_core.proofs.others.sharing_of.Given as goal

-- the keys so far with those that are left are all of them
abbrev pub invariant-loop-key : goal.invariant-loop-key
invariant-loop-key g l = l.made.items ++ keys_of l.key-iterator ≡ keys_of l.config.shares
