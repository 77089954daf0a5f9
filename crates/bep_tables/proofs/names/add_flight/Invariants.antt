use Rattle.std.proofs.Common.{◌≡◌, fold, take}
use Rattle.bep_tables.specs.Names.{with_valid}
use Rattle.bep_tables.proofs.names.add_flight.Given as goal

-- the names are those of the records so far
abbrev pub invariant-loop-entry : goal.invariant-loop-entry
invariant-loop-entry l = l.names ≡ fold with_valid l.initial.names (take l.entry-index l.entry-items)
