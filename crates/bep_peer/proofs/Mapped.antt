-- A finite map each of whose values is changed by a function.
use Rattle.std.proofs.Common.{◌≡◌, ◌&&◌, Bool, true, false, cond, List, [], ◌∷◌, map, T, Option, Some, option_map, refl, sym, ap, ◌∙◌}
use Rattle.std.specs.declared.cmp.Ordering.{Ordering}
use Rattle.std.specs.Ordering.{eq_by_cmp}
use Rattle.std.specs.Cmp.{IsTotalOrder}
use Rattle.std.specs.FinMap.Entries.{below_all}
use Rattle.std.specs.FinMap.{FinMap, IsAntisymmetric, find, is_sorted, get, insert, entries, entries_sorted, from_entries, from_sorted, get-entries, get-from_entries, get-from_sorted, entries-from_sorted, get-insert, same_map}
use Rattle.bep_facts.specs.Entries.{both_hold}

-- the entries with each value changed
abbrev pub changed : {K V W : Type 0} → (V → W) → List (K × V) → List (K × W)
changed f es = map (λ one. (one.0, f one.1)) es

both : (a b : Bool) → T a → T b → T (a && b)
both true b p q = q
both false b p q = p

module _ {K V W : Type 0} (R : K → K → Ordering) (f : V → W) where
  below-changed : (key : K) (es : List (K × V)) → T (below_all R key es) → T (below_all R key (changed f es))
  below-changed key [] h = tt
  below-changed key (e ∷ es) h = let parts = both_hold _ _ h in both _ _ parts.0 (below-changed key es parts.1)

  sorted-changed : (es : List (K × V)) → T (is_sorted R es) → T (is_sorted R (changed f es))
  sorted-changed [] h = tt
  sorted-changed (e ∷ es) h = let parts = both_hold _ _ h in both _ _ (below-changed e.0 es parts.0) (sorted-changed es parts.1)

  find-changed : (es : List (K × V)) (key : K) → find R key (changed f es) ≡ option_map f (find R key es)
  find-changed [] key = refl
  find-changed (e ∷ es) key = cases (eq_by_cmp R key e.0) (find-changed es key) where
    cases : (b : Bool) → find R key (changed f es) ≡ option_map f (find R key es) → cond b (Some (f e.1)) (find R key (changed f es)) ≡ option_map f (cond b (Some e.1) (find R key es))
    cases true rest = refl
    cases false rest = rest

module _ {K V W : Type 0} {R : K → K → Ordering} (total : IsTotalOrder R) (exact : IsAntisymmetric R) (f : V → W) where
  -- what stands at a key
  pub get-changed : (m : FinMap R V) (key : K) → get (from_entries {R = R} (changed f (entries m))) key ≡ option_map f (get m key)
  get-changed m key = get-from_entries total (changed f (entries m)) key ∙ find-changed R f (entries m) key ∙ ap (option_map f) (sym (get-entries m key))

  pub get-from_changed : (m : FinMap R V) (n : FinMap R W) → entries n ≡ changed f (entries m) → (key : K) → get n key ≡ option_map f (get m key)
  get-from_changed m n is key = get-entries n key ∙ ap (find R key) is ∙ find-changed R f (entries m) key ∙ ap (option_map f) (sym (get-entries m key))

  -- all that stands there
  pub entries-changed : (m : FinMap R V) → entries (from_entries {R = R} (changed f (entries m))) ≡ changed f (entries m)
  entries-changed m =
      let sorted : T (is_sorted R (changed f (entries m))) = sorted-changed R f (entries m) (entries_sorted m) in
      ap entries (same_map total exact (from_entries {R = R} (changed f (entries m))) (from_sorted {R = R} (changed f (entries m))) (λ key. get-from_entries total (changed f (entries m)) key ∙ sym (get-from_sorted R (changed f (entries m)) key sorted)))
      ∙ entries-from_sorted R (changed f (entries m)) sorted

  -- a key that is given a value
  pub insert-changed : (m : FinMap R V) (key : K) (value : V) → from_entries {R = R} (changed f (entries (insert m key value))) ≡ insert (from_entries {R = R} (changed f (entries m))) key (f value)
  insert-changed m key value = same_map total exact _ _ (λ other.
      get-changed (insert m key value) other
      ∙ ap (option_map f) (get-insert total m key value other)
      ∙ cases (eq_by_cmp R other key) (get m other)
      ∙ ap (cond (eq_by_cmp R other key) (Some (f value))) (sym (get-changed m other))
      ∙ sym (get-insert total (from_entries {R = R} (changed f (entries m))) key (f value) other))
    where
      cases : (b : Bool) (old : Option V) → option_map f (cond b (Some value) old) ≡ cond b (Some (f value)) (option_map f old)
      cases true old = refl
      cases false old = refl
