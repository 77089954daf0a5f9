use Rattle.std.proofs.Common.{◌≡◌, take}
use Rattle.bep_core.specs.Begin.{sharing_with}
use Rattle.bep_core.proofs.others.sharing_with.Given as goal

-- those among the devices so far
abbrev pub invariant-loop-other : goal.invariant-loop-other
invariant-loop-other l = l.made.items ≡ sharing_with (take l.other-index l.devices) l.keys l.folder l.device
