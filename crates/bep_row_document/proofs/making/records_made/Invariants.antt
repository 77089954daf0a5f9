use Rattle.std.proofs.Common.{◌≡◌, ◌++◌}
use Rattle.std.specs.List.{AllByRecursion}
use Rattle.bep_record.specs.Entry.{IsWellFormed}
use Rattle.bep_row_document.proofs.making.records_made.Given as goal

-- the records so far with the entries that are left are all of them
abbrev pub invariant-loop-entry : goal.invariant-loop-entry
invariant-loop-entry l =
    (l.records.items ++ l.entry-iterator.rest.items ≡ l.fn.entries) × AllByRecursion IsWellFormed l.entry-iterator.rest.items
