use Rattle.std.proofs.Common.{◌≡◌, take}
use Rattle.bep_core.specs.Begin.{linked_with}
use Rattle.bep_core.proofs.others.linked_with.Given as goal

-- those among the devices so far
abbrev pub invariant-loop-other : goal.invariant-loop-other
invariant-loop-other l = l.made.items ≡ linked_with (take l.other-index l.devices) l.links.keys l.device
