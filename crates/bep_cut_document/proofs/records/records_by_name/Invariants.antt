use Rattle.std.proofs.Common.{◌≡◌, length}
use Rattle.std.specs.List.{AllByRecursion}
use Rattle.std.specs.FinMap.{empty}
use Rattle.bep_record.specs.Entry.{IsWellFormed}
use Rattle.bep_index.specs.Batch.{NamesDiffer, with_all}
use Rattle.bep_cut_document.proofs.records.records_by_name.Given as goal

-- the records so far with the entries that are left are all of them
abbrev pub invariant-loop-entry : goal.invariant-loop-entry
invariant-loop-entry l =
    (with_all l.records l.rest.items ≡ with_all empty l.fn.entries) × AllByRecursion IsWellFormed l.rest.items × NamesDiffer l.rest.items

abbrev pub decreases-loop-entry : goal.decreases-loop-entry
decreases-loop-entry l = length l.rest.items
