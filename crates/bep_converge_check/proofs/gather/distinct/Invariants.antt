use Rattle.std.proofs.Common.{◌≡◌, ◌++◌, drop}
use Rattle.bep_gather.specs.Distinct.{distinct}
use Rattle.bep_converge_check.specs.inner.HindranceOrder.{hinder_lent_cmp}
use Rattle.bep_converge_check.proofs.gather.distinct.Given as goal

-- what is kept so far, with what will be kept of the rest
abbrev pub invariant-loop-place : goal.invariant-loop-place
invariant-loop-place l = l.kept.items ++ distinct hinder_lent_cmp (drop l.place l.sorted) ≡ distinct hinder_lent_cmp l.sorted
