use Rattle.std.proofs.Common.{drop}
use Rattle.std.specs.List.{AllByRecursion}
use Rattle.bep_origin.specs.FromCut.{IsGoodFlight}
use Rattle.bep_origin.proofs.from_cut.flights_are_good.Given as goal

-- where those that are left are good, all are
abbrev pub invariant-loop-flight : goal.invariant-loop-flight
invariant-loop-flight l = AllByRecursion IsGoodFlight (drop l.flight-index l.flights) → AllByRecursion IsGoodFlight l.flights
