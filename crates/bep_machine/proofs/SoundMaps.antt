-- What holds of each value of a map by names, once a name was given a value or lost it; and values that may be missing.
use Rattle.std.proofs.Common.{◌≡◌, ◌≤◌, ◌-◌, ◌∙◌, ℕ, Bool, true, false, cond, Option, Some, None, refl, sym, subst, ⊎_elim, arith}
use Rattle.std.specs.Ordering.{nat_cmp, eq_by_cmp}
use Rattle.std.specs.Cmp.Lexicographic.{slice_cmp, nat_list_cmp_total}
use Rattle.std.specs.FinMap.{get, insert, remove, len, contains_key, get-remove, len-remove}
use Rattle.std.proofs.lemmas.Map.Lookups.{exact_bytes}
use Rattle.std.proofs.lemmas.Option.{none-some}
use Rattle.bep_facts.specs.Maps.{found_after_insert}
use Rattle.bep_map.specs.NameMap.{ByName}
use Rattle.bep_model.specs.Tables.{FileName}

-- the value, if there is one, has this property
abbrev pub IfAny : {X : Type 0} → (X → Type 0) → Option X → Type 0
IfAny P None = Unit {0}
IfAny P (Some x) = P x

pub if_any : {X : Type 0} (P : X → Type 0) (o : Option X) → ((x : X) → o ≡ Some x → P x) → IfAny P o
if_any P None all = tt
if_any P (Some x) all = all x refl

pub of_any : {X : Type 0} (P : X → Type 0) (o : Option X) (x : X) → IfAny P o → o ≡ Some x → P x
of_any P o x any is = subst (IfAny P) is any

module _ {V : Type 0} (P : FileName → V → Type 0) (m : ByName V) (key : FileName) (each : (name : FileName) (v : V) → get m name ≡ Some v → P name v) where
  pub each_after_insert : (value : V) → P key value → (name : FileName) (v : V) → get (insert m key value) name ≡ Some v → P name v
  each_after_insert value here name v found =
      ⊎_elim
      (λ h. subst (λ n. P n v) (sym h.0) (subst (λ w. P key w) (sym h.1) here))
      (λ h. each name v h.1)
      (found_after_insert nat_list_cmp_total exact_bytes m key value name v found)

  pub each_after_remove : (name : FileName) (v : V) → get (remove m key) name ≡ Some v → P name v
  each_after_remove name v found =
      cases (eq_by_cmp (slice_cmp nat_cmp) name key) refl
    where
      cases : (b : Bool) → eq_by_cmp (slice_cmp nat_cmp) name key ≡ b → P name v
      cases true tied = absurd (none-some v (sym (subst (λ b. get (remove m key) name ≡ cond b None (get m name)) tied (get-remove nat_list_cmp_total m key name)) ∙ found))
      cases false tied = each name v (sym (subst (λ b. get (remove m key) name ≡ cond b None (get m name)) tied (get-remove nat_list_cmp_total m key name)) ∙ found)

pub len-remove_le : {V : Type 0} (m : ByName V) (key : FileName) (most : ℕ) → len m ≤ most → len (remove m key) ≤ most
len-remove_le m key most few = cases (contains_key m key) (len-remove nat_list_cmp_total m key) where
  cases : (b : Bool) → len (remove m key) ≡ cond b (len m - 1) (len m) → len (remove m key) ≤ most
  cases true left = omega arith
  cases false left = omega arith
