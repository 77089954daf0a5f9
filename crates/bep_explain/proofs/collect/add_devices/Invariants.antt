use Rattle.std.proofs.Common.{map, take}
use Rattle.std.specs.Option.{option_copied}
use Rattle.bep_tables.specs.Cut.{tables_of}
use Rattle.bep_audit.specs.Walk.{failure_shown}
use Rattle.bep_gather.specs.Adding.{AddsFailing, Each}
use Rattle.bep_explain.specs.inner.Says.{SaysBoth}
use Rattle.bep_explain.proofs.collect.add_devices.Given as goal

-- what fails on the devices so far is there
abbrev pub invariant-loop-share : goal.invariant-loop-share
invariant-loop-share l = AddsFailing (Each (SaysBoth (tables_of l.cut) l.row (option_copied l.other)) (take l.share-index l.share-items)) (map failure_shown l.initial.found.items) (map failure_shown l.found.items)
