-- A walk over a list by its places: what is found in what is left of it is found in all of it.
use Rattle.std.proofs.Common.{◌≡◌, ℕ, ◌+◌, ◌<◌, ◌≤◌, List, [], ◌∷◌, ◌++◌, Contains, Option, Some, None, length, get_or, take, drop, sym, subst}
use Rattle.std.specs.Prelude.{⊤, map}
use Rattle.std.specs.declared.cmp.Ordering.{Ordering}
use Rattle.std.specs.declared.cmp.Ordering.TheVariants.{Less}
use Rattle.std.specs.List.Sorted.{IsStrictlySortedBy}
use Rattle.std.proofs.lemmas.Map.Keys.{sorted_tail}
use Rattle.std.proofs.lemmas.List.{drop_all, take-append-drop}
use Rattle.bep_facts.specs.Places.{rest_at}
use Rattle.bep_facts.specs.Rising.{below_later}
use Rattle.bep_audit.specs.inner.Search.{FindsFirst}
use Rattle.bep_audit.proofs.SearchFacts.{AllSay, goes_on, fails_here, ends}

module _ {X Y : Type 0} (cmp : X → X → Ordering) (Says : Y → X → Type 0) where
  -- where one fails, the other holds of all that comes before
  abbrev pub IsBefore : Y → Y → Type 0
  IsBefore one other = (first x : X) → ¬ Says one first → cmp x first ≡ Less → Says other x

  -- each is before those after it
  abbrev pub AreInOrder : List Y → Type 0
  AreInOrder [] = ⊤
  AreInOrder (y ∷ ys) = ((later : Y) → Contains ys later → IsBefore y later) × AreInOrder ys

  -- so are elements whose keys rise, where what has the lesser key is before what has the greater
  pub in_order_by_key : {K : Type 0} (R : K → K → Ordering) (key : Y → K) → ((one other : Y) → R (key one) (key other) ≡ Less → IsBefore one other) → (ys : List Y) → IsStrictlySortedBy R (map key ys) → AreInOrder ys
  in_order_by_key R key before [] rise = tt
  in_order_by_key R key before (y ∷ ys) rise = (
    λ later member. before y later (below_later R key y ys rise later member),
    in_order_by_key R key before ys (sorted_tail R (key y) (map key ys) rise),
  )

  back_in_order : (front back : List Y) → AreInOrder (front ++ back) → AreInOrder back
  back_in_order [] back h = h
  back_in_order (y ∷ front) back h = back_in_order front back h.1

  rest_in_order : (all : List Y) (place : ℕ) → AreInOrder all → AreInOrder (drop place all)
  rest_in_order all place h = back_in_order (take place all) (drop place all) (subst AreInOrder (sym (take-append-drop place all)) h)

  -- what is found in what is left from the place on is found in all
  pub record IsLeftFrom (all : List Y) (place : ℕ) : Type 0 where
    pub finds : (found : Option X) → FindsFirst cmp (AllSay cmp Says (drop place all)) found → FindsFirst cmp (AllSay cmp Says all) found

  pub walk_starts : (all : List Y) → IsLeftFrom all 0
  walk_starts all = record { finds = λ found h. h }

  pub walk_goes_on : (all : List Y) (place : ℕ) (y : Y) → place < length all → y ≡ get_or all place y → ((x : X) → Says y x) → IsLeftFrom all place → IsLeftFrom all (place + 1)
  walk_goes_on all place y below is here left = record {
    finds = λ found h.
        left.finds found
        (subst (λ ys. FindsFirst cmp (AllSay cmp Says ys) found) (sym (rest_at all place y below is)) (goes_on cmp Says y (drop (place + 1) all) here found h));
  }

  pub walk_stops : (all : List Y) (place : ℕ) (y : Y) (first : X) → place < length all → y ≡ get_or all place y → AreInOrder all → FindsFirst cmp (Says y) (Some first) → IsLeftFrom all place → FindsFirst cmp (AllSay cmp Says all) (Some first)
  walk_stops all place y first below is in_order here left =
      let rest = rest_at all place y below is in
      let order : AreInOrder (y ∷ drop (place + 1) all) = subst AreInOrder rest (rest_in_order all place in_order) in
      left.finds (Some first)
      (subst (λ ys. FindsFirst cmp (AllSay cmp Says ys) (Some first)) (sym rest)
      (fails_here cmp Says y (drop (place + 1) all) first here (λ x less later member. order.0 later member first x here.fails less)))

  pub walk_ends : (all : List Y) (place : ℕ) → length all ≤ place → IsLeftFrom all place → FindsFirst cmp (AllSay cmp Says all) None
  walk_ends all place past left =
      left.finds None (subst (λ ys. FindsFirst cmp (AllSay cmp Says ys) None) (sym (drop_all place all past)) (ends cmp Says))
