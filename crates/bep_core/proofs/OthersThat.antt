-- The other devices that pass a test, among devices that rise.
use Rattle.std.proofs.Common.{◌≡◌, ◌≢◌, ◌<◌, ◌≤◌, ◌==◌, ◌&&◌, not, ℕ, Bool, true, false, cond, List, [], ◌∷◌, length, Contains, refl, sym, ap, ◌∙◌, ⊎_elim, arith}
use Rattle.std.specs.List.{filter}
use Rattle.std.specs.List.Sorted.{IsStrictlyIncreasing}
use Rattle.std.proofs.lemmas.List.Kept.{IsStrictlyIncreasing-filter}
use Rattle.std.proofs.lemmas.Bool.Decides.{nat_tests}
use Rattle.bep_record.specs.declared.limits.TheConstants.{MAX_DEVICES}
use Rattle.bep_facts.specs.Members.{not_in_none, Contains-cons_cases}
use Rattle.bep_model.specs.Tables.{Device}
use Rattle.bep_folder.specs.Held.{AreOthers}
use Rattle.bep_core.specs.Begin.{others_that}
use Rattle.bep_peer.proofs.Numbers.{itself}

-- what is kept by a test passes it
pub kept_passes : {X : Type 0} (p : X → Bool) (xs : List X) (x : X) → Contains (filter p xs) x → p x ≡ true
kept_passes p [] x h = absurd (not_in_none x h)
kept_passes p (y ∷ xs) x h = cases (kept_passes p xs x) (p y) refl h where
  cases : (Contains (filter p xs) x → p x ≡ true) → (b : Bool) → p y ≡ b → Contains (cond b (y ∷ filter p xs) (filter p xs)) x → p x ≡ true
  cases rest true e h = ⊎_elim (λ same. ap p (sym same) ∙ e) rest (Contains-cons_cases y (filter p xs) x h)
  cases rest false e h = rest h

kept_few : {X : Type 0} (p : X → Bool) (xs : List X) → length (filter p xs) ≤ length xs
kept_few p [] = omega arith
kept_few p (y ∷ xs) = cases (kept_few p xs) (p y) where
  cases : length (filter p xs) ≤ length xs → (b : Bool) → length (cond b (y ∷ filter p xs) (filter p xs)) ≤ length (y ∷ xs)
  cases rest true = omega (arith, rest)
  cases rest false = omega (arith, rest)

-- a test that fails at one of them keeps fewer
kept_fewer : {X : Type 0} (p : X → Bool) (xs : List X) (x : X) → Contains xs x → p x ≡ false → length (filter p xs) < length xs
kept_fewer p [] x h fails_at = absurd (not_in_none x h)
kept_fewer p (y ∷ xs) x h fails_at = cases (λ later. kept_fewer p xs x later fails_at) (p y) refl where
  fails : p y ≡ true → Contains xs x
  fails e = ⊎_elim (λ same. let both : true ≡ false = sym e ∙ ap p same ∙ fails_at in absurd (cc)) (λ more. more) (Contains-cons_cases y xs x h)

  cases : (Contains xs x → length (filter p xs) < length xs) → (b : Bool) → p y ≡ b → length (cond b (y ∷ filter p xs) (filter p xs)) < length (y ∷ xs)
  cases rest true e = omega (arith, rest (fails e))
  cases rest false e = omega (arith, kept_few p xs)

module _ (test : Device → Bool) (devices : List Device) (device : Device) where
  not_kept : (not (device == device) && test device) ≡ false
  not_kept = ap (λ b. not b && test device) (itself device)

  -- they rise, the device isn't among them, and there are at most 15
  pub are_others : IsStrictlyIncreasing devices → length devices ≤ MAX_DEVICES → Contains devices device → AreOthers device (others_that test devices device)
  are_others rising few there = record {
    rise = IsStrictlyIncreasing-filter _ devices rising;
    apart = λ h. let both : true ≡ false = sym (kept_passes _ devices device h) ∙ not_kept in absurd (cc);
    few = omega (arith, few, kept_fewer (λ other. not (other == device) && test other) devices device there not_kept);
  }
