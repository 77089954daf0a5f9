use Rattle.std.proofs.Common.{map, take}
use Rattle.bep_tables.specs.Cut.{tables_of}
use Rattle.bep_gather.specs.Adding.{AddsFailing, Each}
use Rattle.bep_converge_check.specs.Hindrance.{hinder_shown}
use Rattle.bep_converge_check.specs.inner.Says.{SaysShare}
use Rattle.bep_converge_check.proofs.all_at.add_devices.Given as goal

-- what fails on the devices so far is there
abbrev pub invariant-loop-share : goal.invariant-loop-share
invariant-loop-share l = AddsFailing (Each (SaysShare (tables_of l.cut) (l.folder, l.name)) (take l.share-index l.share-items)) (map hinder_shown l.initial.found.items) (map hinder_shown l.found.items)
