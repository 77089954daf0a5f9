use Rattle.std.proofs.Common.{◌-◌, ◌^◌}
use Rattle.bep_index.specs.Index.{IsIndex}
use Rattle.bep_folder.proofs.NamesFacts.{AddsUpTo}
use Rattle.bep_folder.proofs.reading.names.add_recorded.Given as goal

-- the names of the records up to this sequence were added
abbrev pub invariant-loop-record : goal.invariant-loop-record
invariant-loop-record l = IsIndex l.index → AddsUpTo l.index.records l.sequence l.fn.names l.names

abbrev pub decreases-loop-record : goal.decreases-loop-record
decreases-loop-record l = 2 ^ 64 - l.sequence
