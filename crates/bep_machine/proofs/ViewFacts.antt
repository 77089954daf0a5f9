-- A view under an announced id, and what a replica sees of each device once it has another view of one.
use Rattle.std.proofs.Common.{◌≡◌, ◌≢◌, ◌==◌, ℕ, Bool, true, false, if◌then◌else◌, refl, ap, arith, unwrap_or}
use Rattle.std.proofs.lemmas.Bool.Decides.{nat_tests}
use Rattle.std.specs.Cmp.{nat_cmp_total}
use Rattle.std.specs.FinMap.{nat_cmp-IsAntisymmetric}
use Rattle.bep_facts.specs.Maps.{get-insert_here, get-insert_apart}
use Rattle.bep_index.specs.Listing.{Listing}
use Rattle.bep_index.specs.View.{cleared}
use Rattle.bep_model.specs.Tables.{Device}
use Rattle.bep_machine.specs.Replica.{Replica, view_of, with_view}
use Rattle.bep_machine.specs.Exchange.{known_under}

pub known_same : (id : ℕ) (view : Listing) → view.id ≡ id → known_under id view ≡ view
known_same id view same = by_test (view.id == id) refl
  where
    by_test : (b : Bool) → (view.id == id) ≡ b → (if b then view else cleared id) ≡ view
    by_test true e = refl
    by_test false e = absurd (grind (arith, nat_tests))

pub known_other : (id : ℕ) (view : Listing) → view.id ≢ id → known_under id view ≡ cleared id
known_other id view apart = by_test (view.id == id) refl
  where
    by_test : (b : Bool) → (view.id == id) ≡ b → (if b then view else cleared id) ≡ cleared id
    by_test true e = absurd (apart (grind (arith, nat_tests)))
    by_test false e = refl

pub view_here : (replica : Replica) (other : Device) (view : Listing) → view_of (with_view replica other view) other ≡ view
view_here replica other view = ap (λ o. unwrap_or o (cleared 0)) (get-insert_here nat_cmp_total nat_cmp-IsAntisymmetric replica.views other view)

pub view_apart : (replica : Replica) (other : Device) (view : Listing) (third : Device) → third ≢ other → view_of (with_view replica other view) third ≡ view_of replica third
view_apart replica other view third apart = ap (λ o. unwrap_or o (cleared 0)) (get-insert_apart nat_cmp_total nat_cmp-IsAntisymmetric replica.views other view third apart)
