-- A list that is changed by a function, one place after the other.
use Rattle.std.proofs.Common.{zero, suc, ◌≡◌, ◌<◌, ◌≤◌, ◌+◌, ℕ, List, [], ◌∷◌, ◌++◌, length, map, take, set, get_or, refl, ap, ◌∙◌, arith}
use Rattle.std.proofs.lemmas.List.{take-append-le, take_all}

-- all of a list, of one that goes on
pub whole : {X : Type 0} (xs ys : List X) (n : ℕ) → n ≡ length xs → take n (xs ++ ys) ≡ xs
whole xs ys n is = let most : n ≤ length xs = omega (arith, is) in let least : length xs ≤ n = omega (arith, is) in take-append-le n xs ys most ∙ take_all n xs least

module _ {X : Type 0} (f : X → X) where
  -- the first places are changed
  abbrev pub done : ℕ → List X → List X
  done zero xs = xs
  done (suc n) [] = []
  done (suc n) (x ∷ xs) = f x ∷ done n xs

  -- the next place is as it was
  next : (xs : List X) (n : ℕ) (d : X) → get_or (done n xs) n d ≡ get_or xs n d
  next xs zero d = refl
  next [] (suc n) d = refl
  next (x ∷ xs) (suc n) d = next xs n d

  as_long : (xs : List X) (n : ℕ) → length (done n xs) ≡ length xs
  as_long xs zero = refl
  as_long [] (suc n) = refl
  as_long (x ∷ xs) (suc n) = let rest = as_long xs n in omega arith

  -- and is changed next
  one_more : (xs : List X) (n : ℕ) (d : X) → n < length xs → set (done n xs) n (f (get_or xs n d)) ≡ done (suc n) xs
  one_more [] n d there = absurd (omega (arith, there))
  one_more (x ∷ xs) zero d there = refl
  one_more (x ∷ xs) (suc n) d there = ap (λ ys. f x ∷ ys) (one_more xs n d (omega (arith, there)))

  pub changed_next : (first all : List X) (n : ℕ) (one after : X) → n < length all → one ≡ get_or all n one → after ≡ f one → all ≡ done n first → set all n after ≡ done (n + 1) first
  changed_next first all n one after below is changed before =
      let below_first : n < length first = let same = ap length before in let long = as_long first n in omega arith in
      let next_is : suc n ≡ n + 1 = omega arith in
      (λ i. set (before i) n (changed i))
      ∙ ap (λ x. set (done n first) n (f x)) (is ∙ ap (λ xs. get_or xs n one) before ∙ next first n one)
      ∙ one_more first n one below_first
      ∙ ap (λ k. done k first) next_is

  -- until all are
  pub all_done : (xs : List X) (n : ℕ) → length xs ≤ n → done n xs ≡ map f xs
  all_done [] zero past = refl
  all_done [] (suc n) past = refl
  all_done (x ∷ xs) zero past = absurd (omega (arith, past))
  all_done (x ∷ xs) (suc n) past = ap (λ ys. f x ∷ ys) (all_done xs n (omega (arith, past)))
