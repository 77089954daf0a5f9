-- What a filter keeps.
use Rattle.std.proofs.Common.{◌≡◌, Bool, true, false, cond, List, [], ◌∷◌, Contains, refl, subst, ⊎_elim}
use Rattle.std.specs.List.{AllByRecursion, filter}
use Rattle.bep_facts.specs.Members.{Contains-cons_cases, Contains-first, Contains-more, not_in_none}

pub all_kept : {X : Type 0} (test : X → Bool) (P : X → Type 0) (xs : List X) → AllByRecursion P xs → AllByRecursion P (filter test xs)
all_kept test P [] all = tt
all_kept test P (x ∷ more) all = cases (test x) (all_kept test P more all.1) where
  cases : (b : Bool) → AllByRecursion P (filter test more) → AllByRecursion P (cond b (x ∷ filter test more) (filter test more))
  cases true rest = (all.0, rest)
  cases false rest = rest

-- what is kept was there, and passes the test
pub from_kept : {X : Type 0} (test : X → Bool) (xs : List X) (z : X) → Contains (filter test xs) z → Contains xs z × (test z ≡ true)
from_kept test [] z h = absurd (not_in_none z h)
from_kept test (x ∷ more) z h = cases (test x) refl (λ there. let rest = from_kept test more z there in (Contains-more x more z rest.0, rest.1)) h where
  cases : (b : Bool) → test x ≡ b → (Contains (filter test more) z → Contains (x ∷ more) z × (test z ≡ true)) → Contains (cond b (x ∷ filter test more) (filter test more)) z → Contains (x ∷ more) z × (test z ≡ true)
  cases true passes later there =
      ⊎_elim
      (λ same. (subst (Contains (x ∷ more)) same (Contains-first x more), subst (λ y. test y ≡ true) same passes))
      later
      (Contains-cons_cases x (filter test more) z there)
  cases false fails later there = later there

true_is_not_false : {b : Bool} → b ≡ true → b ≡ false → ⊥
true_is_not_false passes fails = cc

-- what was there and passes the test is kept
pub kept : {X : Type 0} (test : X → Bool) (xs : List X) (z : X) → Contains xs z → test z ≡ true → Contains (filter test xs) z
kept test [] z h passes = absurd (not_in_none z h)
kept test (x ∷ more) z h passes = cases (test x) refl (λ later. kept test more z later passes) where
  cases : (b : Bool) → test x ≡ b → (Contains more z → Contains (filter test more) z) → Contains (cond b (x ∷ filter test more) (filter test more)) z
  cases true first rest =
      ⊎_elim
      (λ same. subst (Contains (x ∷ filter test more)) same (Contains-first x (filter test more)))
      (λ later. Contains-more x (filter test more) z (rest later))
      (Contains-cons_cases x more z h)
  cases false fails rest =
      ⊎_elim (λ same. absurd (true_is_not_false passes (subst (λ y. test y ≡ false) same fails))) rest (Contains-cons_cases x more z h)
