use Rattle.std.proofs.Common.{◌≡◌}
use Rattle.std.specs.declared.cmp.Ordering.TheVariants.{Less}
use Rattle.std.specs.List.{AllAdjacentBelow}
use Rattle.bep_document.proofs.faults.judge.keys_rise.Given as goal

-- the keys so far rise
abbrev pub invariant-loop-place : goal.invariant-loop-place
invariant-loop-place g l = AllAdjacentBelow (λ x y. g.J.Key.Ord.cmp (g.J.JudgeKeyed.key_of x) (g.J.JudgeKeyed.key_of y) ≡ Less) l.items l.place
