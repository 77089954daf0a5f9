use Rattle.bep_choice.proofs.Firsts.{IsBestSoFar}
use Rattle.bep_choice.proofs.choice.choose.Given as goal

abbrev pub invariant-loop-place : goal.invariant-loop-place
invariant-loop-place l = IsBestSoFar l.me l.candidates l.place l.best
