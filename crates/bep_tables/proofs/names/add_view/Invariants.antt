use Rattle.std.proofs.Common.{◌≡◌, fold}
use Rattle.std.specs.FinMap.{values}
use Rattle.bep_tables.specs.Names.{with_valid}
use Rattle.bep_tables.proofs.names.add_view.Given as goal

-- the names so far with those that are left are all of them
abbrev pub invariant-loop-entry : goal.invariant-loop-entry
invariant-loop-entry l = fold with_valid l.names l.entry-iterator ≡ fold with_valid l.initial.names (values l.view.records)
