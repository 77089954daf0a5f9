use Rattle.std.proofs.Common.{All, take}
use Rattle.bep_choice.specs.Choice.{IsDominated}
use Rattle.bep_choice.proofs.choice.is_left.Given as goal

-- none so far dominates this one
abbrev pub invariant-loop-other : goal.invariant-loop-other
invariant-loop-other l = All (λ other. ¬ IsDominated l.one.1.now other.1.now) (take l.other-index l.candidates)
