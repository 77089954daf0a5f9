-- There is one verdict at most: reasons and places are told apart by their orders.
use Rattle.std.proofs.Common.{◌≡◌, ℕ, List, Option, Some, None, refl, sym, ap, subst, ◌∙◌, ⊎_elim, arith}
use Rattle.std.specs.Prelude.{◌==◌, if◌then◌else◌}
use Rattle.std.specs.declared.cmp.Ordering.TheVariants.{Less, Equal}
use Rattle.std.specs.Ordering.{ordering_reverse}
use Rattle.std.specs.Cmp.{IsTotalOrder}
use Rattle.std.proofs.lemmas.Bool.{cases_order}
use Rattle.std.proofs.lemmas.Cmp.{then_total, on_total, nat_cmp_total, nat_list_cmp_total}
use Rattle.std.proofs.lemmas.Map.Lookups.{exact_bytes, exact_unsigned}
use Rattle.bep_facts.specs.Orders.{order_cases, both_tied}
use Rattle.bep_model.specs.declared.row.Row.{Row}
use Rattle.bep_model.specs.declared.reason.Reason.{Reason}
use Rattle.bep_model.specs.declared.reason.Reason.TheVariants.{CertificateOrder, NameMissing, NameUnknown, NotWinner, RecordMissing, RecordDiffers, LocalOnly, StoreDiffers, StoreUnclean, ViewAhead, FlightAhead, PullAhead}
use Rattle.bep_model.specs.Tables.{Tables, Device}
use Rattle.bep_model.specs.Settled.{IsSettled}
use Rattle.bep_model.specs.Reasons.{Place, place_cmp, device_rank}
use Rattle.bep_model.specs.Verdict.{Settled, Not, number_of, IsFirstFault}
use Rattle.bep_model.specs.Laws.{NumbersAreWithin, NumbersDiffer, VerdictIsUnique}
use Rattle.bep_model.proofs.Faultless.{settled_is_faultless_lem}

-- ---- reasons

-- the reason at a place in the table
abbrev pub reason_at : ℕ → Reason
reason_at n =
    if n == 1 then CertificateOrder else
    if n == 2 then NameMissing else
    if n == 3 then NameUnknown else
    if n == 4 then NotWinner else
    if n == 5 then RecordMissing else
    if n == 6 then RecordDiffers else
    if n == 7 then LocalOnly else
    if n == 8 then StoreDiffers else
    if n == 9 then StoreUnclean else
    if n == 10 then ViewAhead else
    if n == 11 then FlightAhead else PullAhead

pub reason_at_number : (reason : Reason) → reason_at (number_of reason) ≡ reason
reason_at_number CertificateOrder = refl
reason_at_number _ = refl

pub same_from_number : NumbersDiffer
same_from_number one other e = sym (reason_at_number one) ∙ ap reason_at e ∙ reason_at_number other

pub number_within : NumbersAreWithin
number_within CertificateOrder = (omega arith, omega arith)
number_within _ = (omega arith, omega arith)

-- ---- places

pub place_total : IsTotalOrder place_cmp
place_total =
    then_total (on_total (λ (place : Place). place.folder) nat_list_cmp_total)
    (then_total (on_total (λ (place : Place). place.name) nat_list_cmp_total)
    (on_total (λ (place : Place). device_rank place.device) nat_cmp_total))

same_from_rank : (one other : Option Device) → device_rank one ≡ device_rank other → one ≡ other
same_from_rank None None e = refl
same_from_rank None (Some other) e = absurd (omega arith)
same_from_rank (Some one) None e = absurd (omega arith)
same_from_rank (Some one) (Some other) e = let same : one ≡ other = omega arith in ap (λ (device : ℕ). Some device) same

pub same_place : (one other : Place) → place_cmp one other ≡ Equal → one ≡ other
same_place one other e =
    let by_folder = both_tied _ _ e in
    let by_name = both_tied _ _ by_folder.1 in
    let folder = exact_bytes one.folder other.folder by_folder.0 in
    let name = exact_bytes one.name other.name by_name.0 in
    let device = same_from_rank one.device other.device (exact_unsigned _ _ by_name.1) in
    λ i. record { folder = folder i; name = name i; device = device i }

-- ---- verdicts

not_settled_and_at_fault : (t : Tables) (rows : List Row) (reason : Reason) (place : Place) → IsSettled t rows → ¬ IsFirstFault t rows reason place
not_settled_and_at_fault t rows reason place settled fault = fault.fails ((settled_is_faultless_lem t rows).0 settled reason place)

same_fault_reason : (t : Tables) (rows : List Row) (reason other : Reason) (place other_place : Place) → IsFirstFault t rows reason place → IsFirstFault t rows other other_place → reason ≡ other
same_fault_reason t rows reason other place other_place one two =
    ⊎_elim
    (λ same. same_from_number reason other same)
    (⊎_elim
    (λ less. absurd (one.fails (two.least reason place less)))
    (λ less. absurd (two.fails (one.least other other_place less))))
    (cases_order (number_of reason) (number_of other))

same_fault_place : (t : Tables) (rows : List Row) (reason : Reason) (place other : Place) → IsFirstFault t rows reason place → IsFirstFault t rows reason other → place ≡ other
same_fault_place t rows reason place other one two =
    ⊎_elim
    (λ less. absurd (one.fails (two.first place less)))
    (⊎_elim
    (λ equal. same_place place other equal)
    (λ greater.
    let less : place_cmp other place ≡ Less = place_total.antisymm other place ∙ ap ordering_reverse greater in
    absurd (two.fails (one.first other less))))
    (order_cases (place_cmp place other))

same_fault : (t : Tables) (rows : List Row) (reason other : Reason) (place other_place : Place) → IsFirstFault t rows reason place → IsFirstFault t rows other other_place → Not reason place.folder place.name place.device ≡ Not other other_place.folder other_place.name other_place.device
same_fault t rows reason other place other_place one two =
    let same_reason = same_fault_reason t rows reason other place other_place one two in
    let same = same_fault_place t rows other place other_place (subst (λ r. IsFirstFault t rows r place) same_reason one) two in
    λ i. Not (same_reason i) (same i).folder (same i).name (same i).device

pub verdict_is_unique_lem : VerdictIsUnique
verdict_is_unique_lem t rows Settled Settled one two = refl
verdict_is_unique_lem t rows Settled (Not reason folder name device) one two = absurd (not_settled_and_at_fault t rows reason _ one two)
verdict_is_unique_lem t rows (Not reason folder name device) Settled one two = absurd (not_settled_and_at_fault t rows reason _ two one)
verdict_is_unique_lem t rows (Not reason folder name device) (Not other other_folder other_name other_device) one two =
    same_fault t rows reason other _ _ one two
