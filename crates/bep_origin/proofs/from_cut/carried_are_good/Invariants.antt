use Rattle.std.proofs.Common.{drop}
use Rattle.std.specs.List.{AllByRecursion}
use Rattle.bep_index.specs.Good.{IsGood}
use Rattle.bep_origin.proofs.from_cut.carried_are_good.Given as goal

-- where those that are left are good, all are
abbrev pub invariant-loop-entry : goal.invariant-loop-entry
invariant-loop-entry l = AllByRecursion IsGood (drop l.entry-index l.records) → AllByRecursion IsGood l.records
