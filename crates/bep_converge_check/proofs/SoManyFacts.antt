-- How many things there are of a kind: none, one, those of two kinds together, and those beside one thing.
use Rattle.std.proofs.Common.{◌≡◌, ◌≢◌, ◌⊎◌, ◌+◌, ◌∙◌, ℕ, List, [], ◌∷◌, ◌++◌, map, Contains, refl, sym, ap, subst, inl, inr, ⊎_elim, arith, length-append}
use Rattle.std.proofs.lemmas.List.{length-map}
use Rattle.std.proofs.lemmas.List.Elements.{Contains-append_left, Contains-append_right, Contains-append_cases}
use Rattle.bep_facts.specs.Members.{not_in_none, Contains-first, Contains-more, Contains-one, Contains-image, Contains-from_image}
use Rattle.bep_converge_check.specs.SoMany.{HasNoneTwice, AreSoMany}

module _ {X : Type 0} where
  -- there is none where all are of the other kind
  pub none_of : (Is IsOther : X → Type 0) → ((x : X) → IsOther x) → AreSoMany Is IsOther 0
  none_of Is IsOther others = record {
    all = [];
    once = tt;
    each = λ x member. absurd (not_in_none x member);
    rest = λ x. inr (others x);
    counted = refl;
  }

  -- where there is none, all are
  pub all_others : (Is IsOther : X → Type 0) (count : ℕ) → AreSoMany Is IsOther count → count ≡ 0 → (x : X) → IsOther x
  all_others Is IsOther count so zero x =
      ⊎_elim
      (λ member. let inside = member.1 in let counted = so.counted in absurd (omega (arith, inside, counted, zero)))
      (λ other. other)
      (so.rest x)

  -- so many are of kinds that are implied
  pub such_too : (Is IsOther Such Others : X → Type 0) (count : ℕ) → ((x : X) → Is x → Such x) → ((x : X) → IsOther x → Others x) → AreSoMany Is IsOther count → AreSoMany Such Others count
  such_too Is IsOther Such Others count is other so = record {
    all = so.all;
    once = so.once;
    each = λ x member. is x (so.each x member);
    rest = λ x. ⊎_elim (λ member. inl member) (λ not. inr (other x not)) (so.rest x);
    counted = so.counted;
  }

  append_once : (xs ys : List X) → HasNoneTwice xs → HasNoneTwice ys → ((x : X) → Contains xs x → ¬ Contains ys x) → HasNoneTwice (xs ++ ys)
  append_once [] ys one other apart = other
  append_once (x ∷ xs) ys one other apart = (
    λ member. ⊎_elim (λ here. one.0 here) (λ there. apart x (Contains-first x xs) there) (Contains-append_cases xs ys x member),
    append_once xs ys one.1 other (λ z here. apart z (Contains-more x xs z here)),
  )

  -- of two kinds that have nothing in common there are as many as the sum
  pub both_of : (Is IsOther Too TooOther Such Others : X → Type 0) (m n : ℕ) → AreSoMany Is IsOther m → AreSoMany Too TooOther n →
      ((x : X) → Is x → ¬ Too x) → ((x : X) → Is x → Such x) → ((x : X) → Too x → Such x) → ((x : X) → IsOther x → TooOther x → Others x) → AreSoMany Such Others (m + n)
  both_of Is IsOther Too TooOther Such Others m n one two apart first second neither = record {
    all = one.all ++ two.all;
    once = append_once one.all two.all one.once two.once (λ x here there. apart x (one.each x here) (two.each x there));
    each = λ x member. ⊎_elim (λ here. first x (one.each x here)) (λ there. second x (two.each x there)) (Contains-append_cases one.all two.all x member);
    rest = λ x.
        ⊎_elim
        (λ here. inl (Contains-append_left one.all two.all x here))
        (λ not. ⊎_elim (λ there. inl (Contains-append_right one.all two.all x there)) (λ nor. inr (neither x not nor)) (two.rest x))
        (one.rest x);
    counted =
        let sum = length-append one.all two.all in
        let a = one.counted in
        let b = two.counted in
        omega (arith, sum, a, b);
  }

  pub just_one : (only : X) → ((x : X) → (x ≡ only) ⊎ (x ≢ only)) → AreSoMany (λ x. x ≡ only) (λ x. x ≢ only) 1
  just_one only decide = record {
    all = only ∷ [];
    once = (λ member. not_in_none only member, tt);
    each = λ x member. sym (Contains-one only x member);
    rest = λ x. ⊎_elim (λ same. inl (subst (Contains (only ∷ [])) (sym same) (Contains-first only []))) (λ apart. inr apart) (decide x);
    counted = refl;
  }

module _ {X Y : Type 0} (x : X) where
  abbrev beside : Y → X × Y
  beside y = (x, y)

  beside_once : (ys : List Y) → HasNoneTwice ys → HasNoneTwice (map beside ys)
  beside_once [] once = tt
  beside_once (y ∷ ys) once = (
    λ member.
        let found = Contains-from_image beside ys (x, y) member in
        once.0 (subst (Contains ys) (ap (λ (pair : X × Y). pair.1) found.2) found.1),
    beside_once ys once.1,
  )

  -- beside one thing there are as many pairs
  pub beside_all : (Is IsOther : Y → Type 0) (count : ℕ) → ((other : X) → (other ≡ x) ⊎ (other ≢ x)) → AreSoMany Is IsOther count →
      AreSoMany (λ (pair : X × Y). (pair.0 ≡ x) × Is pair.1) (λ (pair : X × Y). pair.0 ≡ x → IsOther pair.1) count
  beside_all Is IsOther count decide so = record {
    all = map beside so.all;
    once = beside_once so.all so.once;
    each = λ pair member.
        let found = Contains-from_image beside so.all pair member in
        (ap (λ (p : X × Y). p.0) (sym found.2), subst Is (ap (λ (p : X × Y). p.1) found.2) (so.each found.0 found.1));
    rest = λ pair.
        ⊎_elim
        (λ same.
        ⊎_elim
        (λ here. inl (subst (Contains (map beside so.all)) (ap (λ (first : X). (first, pair.1)) (sym same)) (Contains-image beside so.all pair.1 here)))
        (λ not. inr (λ _. not))
        (so.rest pair.1))
        (λ apart. inr (λ same. absurd (apart same)))
        (decide pair.0);
    counted = length-map so.all beside ∙ so.counted;
  }
