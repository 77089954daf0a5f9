-- What a test tells of the elements of a list: whether one of them passes, or each does.
use Rattle.std.proofs.Common.{◌≡◌, ◌↔◌, ℕ, ◌-◌, ◌<◌, ◌≤◌, Bool, true, false, true≢false, List, [], ◌∷◌, Contains, IsTrue, length, take, drop, get_or, refl, sym, subst, ⊎_elim, arith}
use Rattle.std.specs.Prelude.{MatchBool}
use Rattle.std.specs.List.{AllWithin, HoldsAt}
use Rattle.std.proofs.lemmas.List.{get_or_default, take_all}
use Rattle.std.proofs.lemmas.List.Elements.{All-contains, All-from_all_within, Contains-from_at}
use Rattle.bep_facts.specs.Members.{Contains-cons_cases, Contains-more}

-- one of the elements is such
abbrev pub SomeSuch : {X : Type 0} → (X → Type 0) → List X → Type 0
SomeSuch {X} P xs = (x : X) × Contains xs x × P x

-- each of them is
abbrev pub EachSuch : {X : Type 0} → (X → Type 0) → List X → Type 0
EachSuch {X} P xs = (x : X) → Contains xs x → P x

some_at : {X : Type 0} (P : X → Type 0) (xs : List X) (k : ℕ) → k < length xs → HoldsAt P xs k → SomeSuch P xs
some_at P [] k below holds = absurd (omega (arith, below))
some_at P (first ∷ more) k below holds =
    (get_or (first ∷ more) k first, Contains-from_at (first ∷ more) _ (k, below, λ d. get_or_default (first ∷ more) k d first below), holds first)

module _ {X : Type 0} (P : X → Type 0) where
  pub some_exactly : (r : Bool) (xs : List X) → MatchBool r ((k : ℕ) × (k < length xs) × HoldsAt P xs k) (AllWithin (λ x. ¬ P x) xs 0 (length xs)) → IsTrue r ↔ SomeSuch P xs
  some_exactly true xs found = (λ _. some_at P xs found.0 found.1 found.2, λ _. refl)
  some_exactly false xs none = (
    λ e. absurd (true≢false (sym e)),
    λ some. absurd (All-contains (λ x. ¬ P x) xs some.0 (All-from_all_within (λ x. ¬ P x) xs none) some.1 some.2),
  )

  pub each_exactly : (r : Bool) (xs : List X) → MatchBool r (AllWithin P xs 0 (length xs)) ((k : ℕ) × (k < length xs) × HoldsAt (λ x. ¬ P x) xs k) → IsTrue r ↔ EachSuch P xs
  each_exactly true xs all = (λ _ x member. All-contains P xs x (All-from_all_within P xs all) member, λ _. refl)
  each_exactly false xs found = (
    λ e. absurd (true≢false (sym e)),
    λ each. let fails = some_at (λ x. ¬ P x) xs found.0 found.1 found.2 in absurd (fails.2 (each fails.0 fails.1)),
  )

  -- where the first element is such, each is exactly where each of those behind it is
  pub each_from_first : (R : Type 0) (xs : List X) (first : X) → 1 ≤ length xs → first ≡ get_or xs 0 first → P first → R ↔ EachSuch P (take (length xs - 1) (drop 1 xs)) → R ↔ EachSuch P xs
  each_from_first R [] first long is holds others = absurd (omega (arith, long))
  each_from_first R (one ∷ more) first long is holds others =
      let behind = subst (λ l. R ↔ EachSuch P l) (take_all (length (one ∷ more) - 1) more (omega arith)) others in (
        λ r x member. ⊎_elim (λ same. subst P same (subst P is holds)) (λ later. behind.0 r x later) (Contains-cons_cases one more x member),
        λ each. behind.1 (λ x later. each x (Contains-more one more x later)),
      )
