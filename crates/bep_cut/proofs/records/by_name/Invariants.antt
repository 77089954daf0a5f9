use Rattle.std.proofs.Common.{◌≡◌}
use Rattle.std.specs.FinMap.{empty}
use Rattle.bep_index.specs.Batch.{with_all}
use Rattle.bep_cut.proofs.records.by_name.Given as goal

-- the records so far with those that are left are all of them
abbrev pub invariant-loop-entry : goal.invariant-loop-entry
invariant-loop-entry l = with_all l.made l.entry-iterator.rest.items ≡ with_all empty l.fn.records.items
