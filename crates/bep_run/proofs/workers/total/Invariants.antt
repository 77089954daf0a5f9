use Rattle.std.proofs.Common.{All, ℕ, Result}
use Rattle.std.specs.Prelude.{IfErr}
use Rattle.bep_log.specs.declared.error.LogError.{LogError}
use Rattle.bep_run.specs.Why.{IsOfTurns}
use Rattle.bep_run.proofs.workers.total.Given as goal

-- each of the workers that are left ended as turns end
abbrev pub invariant-loop-answer : goal.invariant-loop-answer
invariant-loop-answer g l = All (λ (answer : Result ℕ LogError). IfErr answer (IsOfTurns g.O.Tabled.table)) l.answer-iterator.rest.items
