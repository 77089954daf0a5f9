use Rattle.bep_converge.proofs.TakesBounded.{takes_are_bounded_lem, takes_are_counted_lem}
use Rattle.bep_converge.proofs.laws.takes_are_bounded.Goals as goal

pub returns-clause-counted : goal.returns-clause-counted
returns-clause-counted c = takes_are_counted_lem

pub returns-clause-bounded : goal.returns-clause-bounded
returns-clause-bounded c = takes_are_bounded_lem
