use Rattle.std.proofs.Common.{map, take}
use Rattle.bep_tables.specs.Cut.{tables_of}
use Rattle.bep_gather.specs.Adding.{AddsFailing, Each}
use Rattle.bep_converge_check.specs.declared.unmet.TheConstants.{OF_DEVICES}
use Rattle.bep_converge_check.specs.Hindrance.{hinder_shown}
use Rattle.bep_converge_check.specs.inner.Says.{SaysReason}
use Rattle.bep_converge_check.proofs.all_at.add_device.Given as goal

-- which of the reasons so far fail is there
abbrev pub invariant-loop-reason : goal.invariant-loop-reason
invariant-loop-reason l = AddsFailing (Each (SaysReason (tables_of l.cut) (l.folder, l.name) l.share) (take l.reason-index OF_DEVICES)) (map hinder_shown l.initial.found.items) (map hinder_shown l.found.items)
