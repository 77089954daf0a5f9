-- A list at one of its places: what stands there, what is before it and what behind it.
use Rattle.std.proofs.Common.{◌≡◌, ◌<◌, ◌+◌, ◌∙◌, ℕ, List, [], ◌∷◌, ◌++◌, length, get_or, take, drop, sym, ap}
use Rattle.std.proofs.lemmas.List.{drop_more, take_more, take-append-drop}

module _ {X : Type 0} (xs : List X) (place : ℕ) (x : X) (below : place < length xs) (is : x ≡ get_or xs place x) where
  -- what is left of the list at the place begins with what stands there
  pub rest_at : drop place xs ≡ x ∷ drop (place + 1) xs
  rest_at = drop_more xs place x below ∙ ap (λ y. y ∷ drop (place + 1) xs) (sym is)

  -- what has gone by ends with it, one place on
  pub done_with : take (place + 1) xs ≡ take place xs ++ x ∷ []
  done_with = take_more xs place x below ∙ ap (λ y. take place xs ++ y ∷ []) (sym is)

  -- the list is what is before it, and it, and what is behind it
  pub split_at : take place xs ++ x ∷ drop (place + 1) xs ≡ xs
  split_at = ap (λ rest. take place xs ++ rest) (sym rest_at) ∙ take-append-drop place xs
