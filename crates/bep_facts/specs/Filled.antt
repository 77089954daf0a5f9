-- A finite map that is filled from another one, key by key.
use Rattle.std.proofs.Common.{◌≡◌, ◌⊎◌, ◌∙◌, ◌++◌, ◌∷◌, [], List, Option, Some, None, Contains, IsSome, Bool, true, false, cond, inl, inr, refl, sym, ap, subst, ⊎_elim}
use Rattle.std.specs.declared.cmp.Ordering.{Ordering}
use Rattle.std.specs.Ordering.{eq_by_cmp}
use Rattle.std.specs.Cmp.{IsTotalOrder}
use Rattle.std.specs.FinMap.{FinMap, IsAntisymmetric, empty, get, insert, keys, get-empty, get-insert, same_map}
use Rattle.std.proofs.lemmas.List.Elements.{Contains-push_cases}
use Rattle.bep_facts.specs.Maps.{get-insert_here, key_has_value, same_key}
use Rattle.bep_facts.specs.Members.{not_in_none}

-- the map, with the value at the key, if there is one
abbrev pub with_value : {K V : Type 0} {R : K → K → Ordering} → FinMap R V → K → Option V → FinMap R V
with_value made key None = made
with_value made key (Some value) = insert made key value

-- these keys were filled in, and no others
pub record IsFilled {K V : Type 0} {R : K → K → Ordering} (from : FinMap R V) (done : List K) (made : FinMap R V) : Type 0 where
  pub right : (key : K) → (get made key ≡ None) ⊎ (get made key ≡ get from key)
  pub each : (key : K) → Contains done key → get made key ≡ get from key

module _ {K V : Type 0} {R : K → K → Ordering} (total : IsTotalOrder R) (exact : IsAntisymmetric R) (from : FinMap R V) where
  pub none_filled : IsFilled from [] empty
  none_filled = record { right = λ key. inl (get-empty R key); each = λ key member. absurd (not_in_none key member) }

  -- a key without a value
  filled_none : (done : List K) (key : K) (made : FinMap R V) → get from key ≡ None → IsFilled from done made → IsFilled from (done ++ key ∷ []) made
  filled_none done key made none filled = record { right = filled.right; each = each } where
    here : get made key ≡ get from key
    here = ⊎_elim (λ not. not ∙ sym none) (λ same. same) (filled.right key)

    each : (other : K) → Contains (done ++ key ∷ []) other → get made other ≡ get from other
    each other member =
        ⊎_elim
        (λ before. filled.each other before)
        (λ same. subst (λ (k : K). get made k ≡ get from k) same here)
        (Contains-push_cases done key other member)

  -- and one with a value
  filled_some : (done : List K) (key : K) (made : FinMap R V) (value : V) → get from key ≡ Some value → IsFilled from done made → IsFilled from (done ++ key ∷ []) (insert made key value)
  filled_some done key made value some filled = record { right = right; each = each } where
    here : get (insert made key value) key ≡ get from key
    here = get-insert_here total exact made key value ∙ sym some

    there : (other : K) (b : Bool) → eq_by_cmp R other key ≡ b →
        (get (insert made key value) other ≡ get from other) ⊎ (get (insert made key value) other ≡ get made other)
    there other true tied = inl (subst (λ (k : K). get (insert made key value) k ≡ get from k) (sym (same_key exact other key tied)) here)
    there other false apart = inr (get-insert total made key value other ∙ ap (λ b. cond b (Some value) (get made other)) apart)

    right : (other : K) → (get (insert made key value) other ≡ None) ⊎ (get (insert made key value) other ≡ get from other)
    right other =
        ⊎_elim
        (λ is. inr is)
        (λ kept. ⊎_elim (λ not. inl (kept ∙ not)) (λ same. inr (kept ∙ same)) (filled.right other))
        (there other (eq_by_cmp R other key) refl)

    each : (other : K) → Contains (done ++ key ∷ []) other → get (insert made key value) other ≡ get from other
    each other member =
        ⊎_elim
        (λ before. ⊎_elim (λ is. is) (λ kept. kept ∙ filled.each other before) (there other (eq_by_cmp R other key) refl))
        (λ same. subst (λ (k : K). get (insert made key value) k ≡ get from k) same here)
        (Contains-push_cases done key other member)

  pub filled_next : (done : List K) (key : K) (made : FinMap R V) → IsFilled from done made → IsFilled from (done ++ key ∷ []) (with_value made key (get from key))
  filled_next done key made filled = cases (get from key) refl where
    cases : (value : Option V) → get from key ≡ value → IsFilled from (done ++ key ∷ []) (with_value made key value)
    cases None is = filled_none done key made is filled
    cases (Some value) is = filled_some done key made value is filled

  -- all of them
  pub all_filled : (done : List K) (made : FinMap R V) → done ≡ keys from → IsFilled from done made → made ≡ from
  all_filled done made all filled = same_map total exact made from (λ key. at key (get from key) refl) where
    at : (key : K) (value : Option V) → get from key ≡ value → get made key ≡ get from key
    at key None is = ⊎_elim (λ not. not ∙ sym is) (λ same. same) (filled.right key)
    at key (Some value) is =
        filled.each key (subst (λ (ks : List K). Contains ks key) (sym all) ((key_has_value total exact from key).1 (subst (λ (o : Option V). IsSome o) (sym is) refl)))
