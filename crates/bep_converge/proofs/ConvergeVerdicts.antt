-- A cut has one verdict at most of whether it converges.
use Rattle.std.proofs.Common.{◌≡◌, ◌∙◌, ℕ, refl, sym, ap, subst, ⊎_elim}
use Rattle.std.specs.Prelude.{◌==◌, if◌then◌else◌}
use Rattle.std.specs.declared.cmp.Ordering.TheVariants.{Less}
use Rattle.std.specs.Ordering.{ordering_reverse}
use Rattle.std.proofs.lemmas.Bool.{cases_order}
use Rattle.bep_facts.specs.Orders.{order_cases}
use Rattle.bep_model.specs.Tables.{Tables}
use Rattle.bep_model.specs.Reasons.{Place, place_cmp}
use Rattle.bep_model.proofs.Verdicts.{place_total, same_place}
use Rattle.bep_converge.specs.declared.converge_reason.ConvergeReason.{ConvergeReason}
use Rattle.bep_converge.specs.declared.converge_reason.ConvergeReason.TheVariants.{NothingPrevails, Concurrent, ContentDiffers, LocalOnly, StoreUnclean, StoreDiffers, SendOnly, WouldCopy}
use Rattle.bep_converge.specs.Prevails.{AllPrevail}
use Rattle.bep_converge.specs.ConvergeReasons.{converge_number_of}
use Rattle.bep_converge.specs.ConvergeVerdict.{Converging, NotConverging, IsFirstHindrance}
use Rattle.bep_converge.specs.Laws.{ConvergeVerdictIsUnique}
use Rattle.bep_converge.proofs.ConvergeFaultless.{converging_is_faultless_lem}

-- the reason of a number
reason_of : ℕ → ConvergeReason
reason_of n =
    if n == 1 then NothingPrevails else if n == 2 then Concurrent else if n == 3 then ContentDiffers else
    if n == 4 then LocalOnly else if n == 5 then StoreUnclean else if n == 6 then StoreDiffers else
    if n == 7 then SendOnly else WouldCopy

reason_of_number : (reason : ConvergeReason) → reason_of (converge_number_of reason) ≡ reason
unfolding reason_of
reason_of_number NothingPrevails = refl
reason_of_number Concurrent = refl
reason_of_number ContentDiffers = refl
reason_of_number LocalOnly = refl
reason_of_number StoreUnclean = refl
reason_of_number StoreDiffers = refl
reason_of_number SendOnly = refl
reason_of_number WouldCopy = refl

module _ (t : Tables) where
  same_reason : (reason other : ConvergeReason) (place other_place : Place) → IsFirstHindrance t reason place → IsFirstHindrance t other other_place → reason ≡ other
  same_reason reason other place other_place one two =
      ⊎_elim
      (λ same. sym (reason_of_number reason) ∙ ap reason_of same ∙ reason_of_number other)
      (⊎_elim
      (λ less. absurd (one.fails (two.least reason place less)))
      (λ less. absurd (two.fails (one.least other other_place less))))
      (cases_order (converge_number_of reason) (converge_number_of other))

  same_first : (reason : ConvergeReason) (place other : Place) → IsFirstHindrance t reason place → IsFirstHindrance t reason other → place ≡ other
  same_first reason place other one two =
      ⊎_elim
      (λ less. absurd (one.fails (two.first place less)))
      (⊎_elim
      (λ equal. same_place place other equal)
      (λ greater.
      let less : place_cmp other place ≡ Less = place_total.antisymm other place ∙ ap ordering_reverse greater in
      absurd (two.fails (one.first other less))))
      (order_cases (place_cmp place other))

  none_hinders : AllPrevail t → (reason : ConvergeReason) (place : Place) → ¬ IsFirstHindrance t reason place
  none_hinders all reason place first = first.fails ((converging_is_faultless_lem t).0 all reason place)

  same_verdict : (reason other : ConvergeReason) (place other_place : Place) → IsFirstHindrance t reason place → IsFirstHindrance t other other_place →
      NotConverging reason place.folder place.name place.device ≡ NotConverging other other_place.folder other_place.name other_place.device
  same_verdict reason other place other_place one two =
      let reasons = same_reason reason other place other_place one two in
      let places = same_first other place other_place (subst (λ (r : ConvergeReason). IsFirstHindrance t r place) reasons one) two in
      λ i. NotConverging (reasons i) (places i).folder (places i).name (places i).device

pub converge_verdict_is_unique_lem : ConvergeVerdictIsUnique
converge_verdict_is_unique_lem t Converging Converging one two = refl
converge_verdict_is_unique_lem t Converging (NotConverging reason folder name device) one two = absurd (none_hinders t one reason _ two)
converge_verdict_is_unique_lem t (NotConverging reason folder name device) Converging one two = absurd (none_hinders t two reason _ one)
converge_verdict_is_unique_lem t (NotConverging reason folder name device) (NotConverging other other_folder other_name other_device) one two =
    same_verdict t reason other (record { folder = folder; name = name; device = device }) (record { folder = other_folder; name = other_name; device = other_device }) one two
