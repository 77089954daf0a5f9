-- The values of a finite map, and the keys at which they stand.
use Rattle.std.proofs.Common.{◌≡◌, Bool, true, false, cond, List, [], ◌∷◌, ◌&&◌, map, T, Some, None, Contains, refl, sym, ap, subst, ◌∙◌, ⊎_elim}
use Rattle.std.specs.declared.cmp.Ordering.{Ordering}
use Rattle.std.specs.declared.cmp.Ordering.TheVariants.{Less, Equal, Greater}
use Rattle.std.specs.Ordering.{is_eq, is_lt, eq_by_cmp}
use Rattle.std.specs.Cmp.{IsTotalOrder}
use Rattle.std.specs.FinMap.{FinMap, IsAntisymmetric, get, values, entries, find, is_sorted, get-entries, entries_sorted}
use Rattle.std.specs.FinMap.Entries.{below_all}
use Rattle.std.proofs.lemmas.Cmp.{tied_itself}
use Rattle.std.proofs.lemmas.Option.{none-some}
use Rattle.bep_facts.specs.Members.{Contains-cons_cases, Contains-first, Contains-more, not_in_none}
use Rattle.bep_facts.specs.Maps.{same_key}

both : (a b : Bool) → T (a && b) → T a × T b
both true b h = (tt, h)
both false b h = absurd h

not_tied : (o : Ordering) → T (is_lt o) → is_eq o ≡ false
not_tied Less h = refl
not_tied Equal h = absurd h
not_tied Greater h = absurd h

-- the values of these entries
abbrev seconds : {K V : Type 0} → List (K × V) → List V
seconds es = map (λ e. e.1) es

module _ {K V : Type 0} (R : K → K → Ordering) where
  among_found : (es : List (K × V)) (key : K) (v : V) → find R key es ≡ Some v → Contains (seconds es) v
  among_found [] key v found = absurd (none-some v found)
  among_found (e ∷ es) key v found = cases (eq_by_cmp R key e.0) (among_found es key v) found where
    cases : (b : Bool) → (find R key es ≡ Some v → Contains (seconds es) v) → cond b (Some e.1) (find R key es) ≡ Some v → Contains (e.1 ∷ seconds es) v
    cases true later same = let first : e.1 ≡ v = cc in subst (Contains (e.1 ∷ seconds es)) first (Contains-first e.1 (seconds es))
    cases false later found = Contains-more e.1 (seconds es) v (later found)

  -- what is below all keys has no value
  none_above : (es : List (K × V)) (key : K) → T (below_all R key es) → find R key es ≡ None
  none_above [] key h = refl
  none_above (e ∷ es) key h =
      let parts = both _ _ h in
      ap (λ b. cond b (Some e.1) (find R key es)) (not_tied _ parts.0) ∙ none_above es key parts.1

-- the value at a key is one of the values
pub value_at_key : {K V : Type 0} {R : K → K → Ordering} (m : FinMap R V) (key : K) (v : V) → get m key ≡ Some v → Contains (values m) v
value_at_key {R = R} m key v found = among_found R (entries m) key v (sym (get-entries m key) ∙ found)

module _ {K V : Type 0} {R : K → K → Ordering} (total : IsTotalOrder R) (exact : IsAntisymmetric R) where
  found_among : (es : List (K × V)) (v : V) → T (is_sorted R es) → Contains (seconds es) v → (key : K) × (find R key es ≡ Some v)
  found_among [] v sorted h = absurd (not_in_none v h)
  found_among (e ∷ es) v sorted h =
      let parts = both _ _ sorted in
      ⊎_elim
      (λ same. (e.0, ap (λ b. cond b (Some e.1) (find R e.0 es)) (ap is_eq (tied_itself total e.0)) ∙ ap Some same))
      (λ later. let found = found_among es v parts.1 later in (found.0, still found.0 found.1 (eq_by_cmp R found.0 e.0) refl (none_above R es e.0 parts.0)))
      (Contains-cons_cases e.1 (seconds es) v h)
    where
      still : (key : K) → find R key es ≡ Some v → (b : Bool) → eq_by_cmp R key e.0 ≡ b → find R e.0 es ≡ None → cond b (Some e.1) (find R key es) ≡ Some v
      still key found true tied none = absurd (none-some v (sym none ∙ ap (λ k. find R k es) (sym (same_key exact key e.0 tied)) ∙ found))
      still key found false apart none = found

  -- each value stands at some key
  pub key_of_value : (m : FinMap R V) (v : V) → Contains (values m) v → (key : K) × (get m key ≡ Some v)
  key_of_value m v h = let found = found_among (entries m) v (entries_sorted m) h in (found.0, get-entries m found.0 ∙ found.1)
