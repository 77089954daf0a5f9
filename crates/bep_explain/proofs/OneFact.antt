-- What one test adds.
use Rattle.std.proofs.Common.{◌≡◌, ◌↔◌, Bool, List, [], ◌∷◌, ◌++◌, IsTrue, subst}
use Rattle.std.specs.Prelude.{if◌then◌else◌}
use Rattle.bep_model.specs.Laws.{NumbersDiffer}
use Rattle.bep_audit.specs.Walk.{Failure}
use Rattle.bep_gather.specs.Adding.{AddsFailing}
use Rattle.bep_gather.specs.AddFacts.{adds_unless}
use Rattle.bep_explain.proofs.FailureFacts.{same_or_not}

pub adds_at : NumbersDiffer → (first said : Failure) → first ≡ said → (Asked : Type 0) (holds : Bool) (old new : List Failure) → IsTrue holds ↔ Asked → new ≡ (if holds then old else old ++ first ∷ []) → AddsFailing (λ one. one ≡ said → Asked) old new
adds_at different first said same Asked holds old new exactly is =
    subst (λ (f : Failure). AddsFailing (λ one. one ≡ f → Asked) old new) same (adds_unless first Asked (λ one. same_or_not different one first) holds old new exactly is)
