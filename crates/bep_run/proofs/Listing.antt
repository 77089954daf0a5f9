-- The objects of a cluster, as they are listed one by one.
use Rattle.std.proofs.Common.{◌≡◌, ◌++◌, ◌+◌, ◌<◌, ◌≤◌, ℕ, List, [], ◌∷◌, map, length, take, get_or, append_assoc, sym, ap, subst, ◌∙◌}
use Rattle.std.proofs.lemmas.List.{map_more, take_all}
use Rattle.bep_fit.specs.declared.object.Object.{Object}

module _ {A : Type 0} (f : A → Object) (before : List Object) (ys xs : List A) (same : ys ≡ xs) (i : ℕ) (listed : List Object) (so : listed ≡ before ++ map f (take i xs)) where
  -- with the next one
  pub listed_more : (x : A) (object : Object) (now : List Object) → i < length ys → x ≡ get_or ys i x → object ≡ f x → now ≡ listed ++ object ∷ [] → now ≡ before ++ map f (take (i + 1) xs)
  listed_more x object now within is of grown =
      let one_more = map_more f xs i x (subst (λ zs. i < length zs) same within) in
      let stands = ap (λ y. map f (take i xs) ++ f y ∷ []) (subst (λ zs. x ≡ get_or zs i x) same is) in
      grown
      ∙ ap (λ o. listed ++ o ∷ []) of
      ∙ ap (λ os. os ++ f x ∷ []) so
      ∙ append_assoc before (map f (take i xs)) (f x ∷ [])
      ∙ ap (λ os. before ++ os) (stands ∙ sym one_more)

  -- at the end
  pub all_listed : length ys ≤ i → listed ≡ before ++ map f xs
  all_listed past = so ∙ ap (λ zs. before ++ map f zs) (take_all i xs (subst (λ zs. length zs ≤ i) same past))
