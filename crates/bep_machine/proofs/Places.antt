-- What holds at each place of a finite map, or of a function, after one place was changed.
use Rattle.std.proofs.Common.{◌≡◌, ◌==◌, ℕ, Bool, true, false, cond, List, Option, Some, refl, sym, subst, if◌then◌else◌}
use Rattle.std.proofs.lemmas.Bool.{eqb-true}
use Rattle.std.proofs.lemmas.Cmp.{nat_list_cmp_total}
use Rattle.std.proofs.lemmas.Map.Lookups.{exact_bytes}
use Rattle.std.specs.declared.cmp.Ordering.{Ordering}
use Rattle.std.specs.Ordering.{eq_by_cmp}
use Rattle.std.specs.Cmp.{IsTotalOrder, nat_cmp_total}
use Rattle.std.specs.FinMap.{FinMap, IsAntisymmetric, get, insert, get-insert, nat_cmp-IsAntisymmetric}
use Rattle.bep_facts.specs.Maps.{same_key}
use Rattle.bep_map.specs.NameMap.{ByName}
use Rattle.bep_machine.specs.Replica.{ByDevice}

module _ {K V : Type 0} {R : K → K → Ordering} (total : IsTotalOrder R) (exact : IsAntisymmetric R) (P : K → Option V → Type 0) where
  -- a key has what it was given, and each other one what it had
  pub each_after_insert : (m : FinMap R V) (key : K) (value : V) → P key (Some value) → ((other : K) → P other (get m other)) → (other : K) → P other (get (insert m key value) other)
  each_after_insert m key value here rest other = subst (P other) (sym (get-insert total m key value other)) (there (eq_by_cmp R other key) refl)
    where
      there : (b : Bool) → eq_by_cmp R other key ≡ b → P other (cond b (Some value) (get m other))
      there true tied = subst (λ k. P k (Some value)) (sym (same_key exact other key tied)) here
      there false apart = rest other

module _ {V : Type 0} (P : List ℕ → Option V → Type 0) where
  pub each_name_after_insert : (m : ByName V) (key : List ℕ) (value : V) → P key (Some value) → ((other : List ℕ) → P other (get m other)) → (other : List ℕ) → P other (get (insert m key value) other)
  each_name_after_insert = each_after_insert nat_list_cmp_total exact_bytes P

module _ {V : Type 0} (P : ℕ → Option V → Type 0) where
  pub each_device_after_insert : (m : ByDevice V) (key : ℕ) (value : V) → P key (Some value) → ((other : ℕ) → P other (get m other)) → (other : ℕ) → P other (get (insert m key value) other)
  each_device_after_insert = each_after_insert nat_cmp_total nat_cmp-IsAntisymmetric P

-- a function that was changed at one number
pub each_after_change : {V : Type 0} (P : ℕ → V → Type 0) (f : ℕ → V) (key : ℕ) (value : V) → P key value → ((other : ℕ) → P other (f other)) → (other : ℕ) → P other (if other == key then value else f other)
each_after_change P f key value here rest other = there (other == key) refl
  where
    there : (b : Bool) → (other == key) ≡ b → P other (if b then value else f other)
    there true same = subst (λ k. P k value) (sym (eqb-true other key same)) here
    there false apart = rest other
