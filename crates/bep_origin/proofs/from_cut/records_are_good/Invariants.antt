use Rattle.std.specs.FinMap.{values}
use Rattle.std.specs.List.{AllByRecursion}
use Rattle.bep_index.specs.Good.{IsGood}
use Rattle.bep_origin.proofs.from_cut.records_are_good.Given as goal

-- where those that are left are good, all are
abbrev pub invariant-loop-entry : goal.invariant-loop-entry
invariant-loop-entry l = AllByRecursion IsGood l.entry-iterator → AllByRecursion IsGood (values l.records)
