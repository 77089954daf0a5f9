use Rattle.std.proofs.Common.{Option, Some, None, IfNone, sym, inl, inr}
use Rattle.bep_core.proofs.cluster.Cluster.places.Goals as goal

none_or : {T : Type 0} (found : Option T) (P : Type 0) → P → IfNone found P
none_or None P holds = holds
none_or (Some x) P holds = tt

pub returns-in_err-place-clause-none : goal.returns-in_err-place-clause-none
returns-in_err-place-clause-none g c = none_or c.from_residual.result _ (inl (sym c.in_err-place.ensures))

pub returns-in_err-between-clause-none : goal.returns-in_err-between-clause-none
returns-in_err-between-clause-none g c = none_or c.from_residual-in_err-between.result _ (inr (sym c.in_err-between.ensures))
