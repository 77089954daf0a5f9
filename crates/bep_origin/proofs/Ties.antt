-- Two devices tie in the order of numbers exactly where they are the same.
use Rattle.std.proofs.Common.{◌≡◌, ◌==◌, ◌∙◌, ℕ, Bool, true, false, refl, ap, sym, eq-eqb, eqb-true}
use Rattle.std.specs.Ordering.{nat_cmp, eq_by_cmp, is_eq}
use Rattle.std.specs.Cmp.{nat_cmp_total}
use Rattle.std.specs.FinMap.{nat_cmp-IsAntisymmetric}
use Rattle.std.proofs.lemmas.Cmp.{tied_itself}
use Rattle.bep_facts.specs.Maps.{same_key}

pub itself : (n : ℕ) → (n == n) ≡ true
itself n = eq-eqb n n refl

pub tie_same : (one other : ℕ) → is_eq (nat_cmp one other) ≡ (one == other)
tie_same one other = cases (one == other) refl (eq_by_cmp nat_cmp one other) refl
  where
    cases : (b : Bool) → (one == other) ≡ b → (c : Bool) → eq_by_cmp nat_cmp one other ≡ c → is_eq (nat_cmp one other) ≡ (one == other)
    cases true same c tied = ap is_eq (ap (nat_cmp one) (sym (eqb-true one other same)) ∙ tied_itself nat_cmp_total one) ∙ sym same
    cases false apart true tied = let same : one ≡ other = same_key nat_cmp-IsAntisymmetric one other tied in tied ∙ sym (ap (λ (n : ℕ). one == n) (sym same) ∙ itself one)
    cases false apart false tied = tied ∙ sym apart
