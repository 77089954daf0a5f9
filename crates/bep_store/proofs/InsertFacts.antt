-- A map from names in which one name is given a value, or two in a row.
use Rattle.std.proofs.Common.{◌≡◌, Bool, true, false, cond, List, ℕ, Option, Some, refl, sym, ap, ◌∙◌}
use Rattle.std.specs.Ordering.{nat_cmp, eq_by_cmp, is_eq}
use Rattle.std.specs.Cmp.Lexicographic.{slice_cmp, nat_list_cmp_total}
use Rattle.std.specs.FinMap.{get, insert, get-insert, same_map}
use Rattle.std.proofs.lemmas.Map.Lookups.{exact_bytes}
use Rattle.std.proofs.lemmas.Cmp.{tied_itself}
use Rattle.bep_map.specs.NameMap.{ByName}

abbrev same_name : List ℕ → List ℕ → Bool
same_name = eq_by_cmp (slice_cmp nat_cmp)

-- the name has the value that it was given
pub get_insert : {V : Type 0} (m : ByName V) (n : List ℕ) (v : V) → get (insert m n v) n ≡ Some v
get_insert m n v =
    get-insert nat_list_cmp_total m n v n ∙ ap (λ r. cond (is_eq r) (Some v) (get m n)) (tied_itself nat_list_cmp_total n)

-- of two values in a row the later one counts
pub insert_insert : {V : Type 0} (m : ByName V) (n : List ℕ) (v w : V) → insert (insert m n v) n w ≡ insert m n w
insert_insert m n v w = same_map nat_list_cmp_total exact_bytes _ _ (λ q.
    get-insert nat_list_cmp_total (insert m n v) n w q
    ∙ ap (cond (same_name q n) (Some w)) (get-insert nat_list_cmp_total m n v q)
    ∙ later (same_name q n) (get m q)
    ∙ sym (get-insert nat_list_cmp_total m n w q)) where
      later : (b : Bool) (old : Option _) → cond b (Some w) (cond b (Some v) old) ≡ cond b (Some w) old
      later true old = refl
      later false old = refl
