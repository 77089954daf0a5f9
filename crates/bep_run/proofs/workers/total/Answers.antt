use Rattle.std.proofs.Common.{◌≡◌, ◌∷◌, All, ℕ, Result, subst}
use Rattle.std.specs.Prelude.{IfErr}
use Rattle.std.proofs.lemmas.List.Elements.{All-tail}
use Rattle.bep_log.specs.declared.error.LogError.{LogError}
use Rattle.bep_run.specs.Why.{IsOfTurns}
use Rattle.bep_run.proofs.workers.total.Goals as goal

pub loop-answer-preserved : goal.loop-answer-preserved
loop-answer-preserved g c =
    let all = c.loop-answer.answer-iterator.rest.items in
    let rest = c.next.new.self.rest.items in
    let is : all ≡ c.in-Some.answer ∷ rest = c.in-Some.ensures.steps.0 in
    All-tail (λ (answer : Result ℕ LogError). IfErr answer (IsOfTurns g.O.Tabled.table)) c.in-Some.answer rest
    (subst (All (λ (answer : Result ℕ LogError). IfErr answer (IsOfTurns g.O.Tabled.table))) is c.loop-answer.invariant)
