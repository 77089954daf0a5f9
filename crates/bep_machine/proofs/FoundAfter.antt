-- What is found in a map after one of its keys got a value, or after each value was mapped.
use Rattle.std.proofs.Common.{◌≡◌, ◌⊎◌, Bool, true, false, cond, List, [], ◌∷◌, map, Option, Some, None, IsSome, option_map, inl, inr, refl, sym, ap, ◌∙◌}
use Rattle.std.specs.declared.cmp.Ordering.{Ordering}
use Rattle.std.specs.Ordering.{eq_by_cmp}
use Rattle.std.specs.Cmp.{IsTotalOrder}
use Rattle.std.specs.FinMap.{FinMap, IsAntisymmetric, find, get, insert, entries, from_entries, get-insert, get-entries, get-from_entries}
use Rattle.std.proofs.lemmas.Option.{none-some}
use Rattle.bep_facts.specs.Maps.{same_key}

module _ {K V : Type 0} {R : K → K → Ordering} (total : IsTotalOrder R) (exact : IsAntisymmetric R) where
  -- what was there is there still, unless its key got the new value
  pub still_found : (m : FinMap R V) (key : K) (value : V) (other : K) (had : V) → get m other ≡ Some had → ((other ≡ key) × (get (insert m key value) other ≡ Some value)) ⊎ (get (insert m key value) other ≡ Some had)
  still_found m key value other had is = cases (eq_by_cmp R other key) refl (get-insert total m key value other)
    where
      cases : (b : Bool) → eq_by_cmp R other key ≡ b → get (insert m key value) other ≡ cond b (Some value) (get m other) → ((other ≡ key) × (get (insert m key value) other ≡ Some value)) ⊎ (get (insert m key value) other ≡ Some had)
      cases true tied e = inl (same_key exact other key tied, e)
      cases false apart e = inr (e ∙ is)

through : {V W : Type 0} (f : V → W) (b : Bool) (x : V) (o : Option V) → cond b (Some (f x)) (option_map f o) ≡ option_map f (cond b (Some x) o)
through f true x o = refl
through f false x o = refl

find-mapped : {K V W : Type 0} (R : K → K → Ordering) (f : V → W) (es : List (K × V)) (q : K) → find R q (map (λ one. (one.0, f one.1)) es) ≡ option_map f (find R q es)
find-mapped R f [] q = refl
find-mapped R f (one ∷ es) q = ap (cond (eq_by_cmp R q one.0) (Some (f one.1))) (find-mapped R f es q) ∙ through f (eq_by_cmp R q one.0) one.1 (find R q es)

-- a map of which each value was mapped
pub get-mapped : {K V W : Type 0} {R : K → K → Ordering} → IsTotalOrder R → (f : V → W) (m : FinMap R V) (q : K) → get (from_entries {R = R} (map (λ one. (one.0, f one.1)) (entries m))) q ≡ option_map f (get m q)
get-mapped {R = R} total f m q = get-from_entries total (map (λ one. (one.0, f one.1)) (entries m)) q ∙ find-mapped R f (entries m) q ∙ ap (option_map f) (sym (get-entries m q))

-- what is found there is the image of what was there
pub some_before : {V W : Type 0} (f : V → W) (o : Option V) (y : W) → option_map f o ≡ Some y → (x : V) × (o ≡ Some x) × (f x ≡ y)
some_before f None y e = absurd (none-some y e)
some_before f (Some x) y e = (x, refl, cc)

-- the value that is there
pub value_of : {V : Type 0} (o : Option V) → IsSome o → (x : V) × (o ≡ Some x)
value_of None is = absurd (cc)
value_of (Some x) is = (x, refl)
