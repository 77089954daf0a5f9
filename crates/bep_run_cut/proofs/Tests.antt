-- Tests of all, or of some, of a list.
use Rattle.std.proofs.Common.{◌≡◌, ◌&&◌, ◌||◌, Bool, true, false, List, [], ◌∷◌, Contains, refl, sym, ap, subst, ⊎_elim}
use Rattle.std.specs.List.{list_all, list_any}
use Rattle.bep_facts.specs.Members.{Contains-cons_cases, Contains-first, Contains-more, not_in_none}

pub both : (a b : Bool) → (a && b) ≡ true → (a ≡ true) × (b ≡ true)
both true b is = (refl, is)
both false b is = absurd (cc)

pub with_both : (a b : Bool) → a ≡ true → b ≡ true → (a && b) ≡ true
with_both true b one other = other
with_both false b one other = absurd (cc)

module _ {X : Type 0} (p : X → Bool) where
  pub each_passes : (xs : List X) → list_all p xs ≡ true → (x : X) → Contains xs x → p x ≡ true
  each_passes [] all x there = absurd (not_in_none x there)
  each_passes (first ∷ more) all x there =
      let parts = both (p first) (list_all p more) all in
      ⊎_elim (λ same. subst (λ z. p z ≡ true) same parts.0) (λ later. each_passes more parts.1 x later) (Contains-cons_cases first more x there)

  pub all_pass : (xs : List X) → ((x : X) → Contains xs x → p x ≡ true) → list_all p xs ≡ true
  all_pass [] each = refl
  all_pass (first ∷ more) each =
      with_both (p first) (list_all p more) (each first (Contains-first first more)) (all_pass more (λ x later. each x (Contains-more first more x later)))

  pub some_passes : (xs : List X) → list_any p xs ≡ true → (x : X) × Contains xs x × (p x ≡ true)
  some_passes [] some = absurd (cc)
  some_passes (first ∷ more) some = cases (p first) refl some (some_passes more)
    where
      cases : (b : Bool) → p first ≡ b → (b || list_any p more) ≡ true → (list_any p more ≡ true → (x : X) × Contains more x × (p x ≡ true)) → (x : X) × Contains (first ∷ more) x × (p x ≡ true)
      cases true is any rest = (first, Contains-first first more, is)
      cases false is any rest = let later = rest any in (later.0, Contains-more first more later.0 later.1, later.2)

  pub any_passes : (xs : List X) (x : X) → Contains xs x → p x ≡ true → list_any p xs ≡ true
  any_passes [] x there is = absurd (not_in_none x there)
  any_passes (first ∷ more) x there is =
      ⊎_elim
      (λ same. ap (λ b. b || list_any p more) (subst (λ z. p z ≡ true) (sym same) is))
      (λ later. or_later (p first) (any_passes more x later is))
      (Contains-cons_cases first more x there)
    where
      or_later : (b : Bool) {c : Bool} → c ≡ true → (b || c) ≡ true
      or_later true rest = refl
      or_later false rest = rest
