-- The one call of the store whose failure an event tells.
use Rattle.std.proofs.Common.{◌≡◌, ◌==◌, ℕ, Bool, true, false, if◌then◌else◌, Option, Some, None, refl, sym, ap, subst, ◌∙◌, inl, inr, eqb-true, eq-eqb}
use Rattle.std.proofs.lemmas.Option.{same_Some}
use Rattle.bep_machine.specs.Local.{Fails}
use Rattle.bep_machine.specs.Halves.{only_call, MayFail}

-- a call that fails and was made is told
pub told_where_made : (call : ℕ) (failed : Option ℕ) → Fails call failed → Fails call (only_call true call failed)
told_where_made call failed is = subst (λ f. Fails call (only_call true call f)) (sym is) (cases (call == call) (eq-eqb call call refl))
  where
    cases : (b : Bool) → b ≡ true → (if b then Some call else None) ≡ Some call
    cases true same = refl
    cases false same = absurd (cc)

-- a call that is told was made, and fails
pub made_where_told : (made : Bool) (call number : ℕ) (failed : Option ℕ) → Fails number (only_call made call failed) → (made ≡ true) × (number ≡ call) × Fails number failed
made_where_told true call number None told = absurd (cc)
made_where_told false call number failed told = absurd (cc)
made_where_told true call number (Some failed) told = cases (failed == call) refl told
  where
    cases : (b : Bool) → (failed == call) ≡ b → (if b then Some failed else None) ≡ Some number → (true ≡ true) × (number ≡ call) × (Some failed ≡ Some number)
    cases true same told = (refl, sym (same_Some failed number told) ∙ eqb-true failed call same, told)
    cases false apart told = absurd (cc)

-- what is told may fail
pub told_may_fail : (made : Bool) (call : ℕ) (failed : Option ℕ) → MayFail made call (only_call made call failed)
told_may_fail true call None = inl refl
told_may_fail false call failed = inl refl
told_may_fail true call (Some failed) = cases (failed == call) refl
  where
    cases : (b : Bool) → (failed == call) ≡ b → MayFail true call (if b then Some failed else None)
    cases true same = inr (refl, ap (λ n. Some n) (eqb-true failed call same))
    cases false apart = inl refl

-- what may fail is told as it is
pub may_fail_told : (made : Bool) (call : ℕ) (failed : Option ℕ) → MayFail made call failed → failed ≡ only_call made call failed
may_fail_told made call failed (inl none) = none ∙ sym (nothing made) ∙ ap (only_call made call) (sym none)
  where
    nothing : (b : Bool) → only_call b call None ≡ None
    nothing true = refl
    nothing false = refl
may_fail_told made call failed (inr (was_made, is)) =
    is ∙ sym (told_where_made call failed is) ∙ ap (λ b. only_call b call failed) (sym was_made)
