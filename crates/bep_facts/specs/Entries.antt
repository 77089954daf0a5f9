-- What stands among the entries of a finite map is what is found in it.
use Rattle.std.proofs.Common.{◌≡◌, ◌↔◌, ◌&&◌, Bool, true, false, cond, List, [], ◌∷◌, Contains, Some, refl, sym, ap, subst, ◌∙◌, ⊎_elim}
use Rattle.std.proofs.Math.Dec.{T}
use Rattle.std.specs.declared.cmp.Ordering.{Ordering}
use Rattle.std.specs.declared.cmp.Ordering.TheVariants.{Less, Equal, Greater}
use Rattle.std.specs.Ordering.{is_lt, is_eq, eq_by_cmp, ordering_reverse}
use Rattle.std.specs.Cmp.{IsTotalOrder}
use Rattle.std.specs.FinMap.Entries.{below_all}
use Rattle.std.specs.FinMap.{FinMap, IsAntisymmetric, find, is_sorted, get, entries, entries_sorted, get-entries}
use Rattle.std.proofs.lemmas.Cmp.{tied_itself}
use Rattle.bep_facts.specs.Maps.{same_key}
use Rattle.bep_facts.specs.Members.{Contains-cons_cases, Contains-first, Contains-more, not_in_none}

pub both_hold : (a b : Bool) → T (a && b) → T a × T b
both_hold true true h = (tt, tt)
both_hold true false h = absurd h
both_hold false b h = absurd h

pub is_Less : (o : Ordering) → T (is_lt o) → o ≡ Less
is_Less Less h = refl
is_Less Equal h = absurd h
is_Less Greater h = absurd h

module _ {K V : Type 0} {R : K → K → Ordering} (total : IsTotalOrder R) (exact : IsAntisymmetric R) where
  -- each later key is above the first
  pub later_is_above : (key : K) (es : List (K × V)) (later : K × V) → T (below_all R key es) → Contains es later → R key later.0 ≡ Less
  later_is_above key [] later below h = absurd (not_in_none later h)
  later_is_above key (e ∷ es) later below h =
      let parts = both_hold _ _ below in
      ⊎_elim
      (λ same. subst (λ (one : K × V). R key one.0 ≡ Less) same (is_Less _ parts.0))
      (λ more. later_is_above key es later parts.1 more)
      (Contains-cons_cases e es later h)

  stands_found : (key : K) (es : List (K × V)) (value : V) → find R key es ≡ Some value → Contains es (key, value)
  stands_found key [] value found = absurd (cc)
  stands_found key (e ∷ es) value found = cases (eq_by_cmp R key e.0) (stands_found key es value) refl found where
    cases : (same : Bool) → (find R key es ≡ Some value → Contains es (key, value)) → eq_by_cmp R key e.0 ≡ same → cond same (Some e.1) (find R key es) ≡ Some value → Contains (e ∷ es) (key, value)
    cases true rest same is =
        let of_key = same_key exact key e.0 same in
        let of_value : value ≡ e.1 = cc in
        subst (Contains (e ∷ es)) (λ i. (sym of_key i, sym of_value i)) (Contains-first e es)
    cases false rest apart is = Contains-more e es (key, value) (rest is)

  found_standing : (es : List (K × V)) (e : K × V) → T (is_sorted R es) → Contains es e → find R e.0 es ≡ Some e.1
  found_standing [] e sorted stands = absurd (not_in_none e stands)
  found_standing (first ∷ more) e sorted stands =
      ⊎_elim
      (λ same. subst (λ (one : K × V). find R one.0 (first ∷ more) ≡ Some one.1) same (ap (λ o. cond (is_eq o) (Some first.1) (find R first.0 more)) (tied_itself total first.0)))
      (λ later.
      let parts = both_hold _ _ sorted in
      let above : R e.0 first.0 ≡ Greater = total.antisymm e.0 first.0 ∙ ap ordering_reverse (later_is_above first.0 more e parts.0 later) in
      ap (λ o. cond (is_eq o) (Some first.1) (find R e.0 more)) above ∙ found_standing more e parts.1 later)
      (Contains-cons_cases first more e stands)

  -- a key has its value in the map exactly where they stand among the entries
  pub entry_stands : (m : FinMap R V) (key : K) (value : V) → (get m key ≡ Some value) ↔ Contains (entries m) (key, value)
  entry_stands m key value = (
    λ found. stands_found key (entries m) value (sym (get-entries m key) ∙ found),
    λ stands. get-entries m key ∙ found_standing (entries m) (key, value) (entries_sorted m) stands,
  )
