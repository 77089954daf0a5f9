-- Only equal places tie.
use Rattle.std.proofs.Common.{◌≡◌, ℕ, Option, Some, None, refl, sym, ap, arith}
use Rattle.std.specs.declared.cmp.Ordering.TheVariants.{Equal}
use Rattle.std.specs.Ordering.{nat_cmp, ordering_then}
use Rattle.std.specs.Cmp.Lexicographic.{slice_cmp}
use Rattle.std.proofs.lemmas.Cmp.{ranked}
use Rattle.std.proofs.lemmas.Map.Lookups.{exact_bytes}
use Rattle.bep_facts.specs.Orders.{both_tied}
use Rattle.bep_model.specs.Tables.{Device}
use Rattle.bep_model.specs.Reasons.{Place, place_cmp, device_rank}

pub same_number : (m n : ℕ) → nat_cmp m n ≡ Equal → m ≡ n
same_number m n e = ranked m n Equal (sym e)

same_device : (one other : Option Device) → device_rank one ≡ device_rank other → one ≡ other
same_device None None e = refl
same_device None (Some device) e = absurd (omega (arith, e))
same_device (Some device) None e = absurd (omega (arith, e))
same_device (Some one) (Some other) e = let same : one ≡ other = omega (arith, e) in ap Some same

pub same_place : (one other : Place) → place_cmp one other ≡ Equal → one ≡ other
same_place one other tied =
    let by_device = nat_cmp (device_rank one.device) (device_rank other.device) in
    let folders = both_tied (slice_cmp nat_cmp one.folder other.folder) (ordering_then (slice_cmp nat_cmp one.name other.name) by_device) tied in
    let names = both_tied (slice_cmp nat_cmp one.name other.name) by_device folders.1 in
    let folder = exact_bytes one.folder other.folder folders.0 in
    let name = exact_bytes one.name other.name names.0 in
    let device = same_device one.device other.device (same_number (device_rank one.device) (device_rank other.device) names.1) in
    λ i. record { folder = folder i; name = name i; device = device i }
