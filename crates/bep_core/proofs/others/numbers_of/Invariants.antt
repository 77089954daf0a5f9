use Rattle.std.proofs.Common.{◌≡◌, ◌++◌}
use Rattle.bep_core.proofs.others.numbers_of.Given as goal

-- the devices so far with those that are left are all of them
abbrev pub invariant-loop-device : goal.invariant-loop-device
invariant-loop-device g l = l.made.items ++ l.device-iterator ≡ l.config.devices
