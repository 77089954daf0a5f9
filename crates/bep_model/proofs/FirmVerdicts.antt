-- A settled cut is firm exactly where none of the four reasons fails, and there is one verdict at most.
use Rattle.std.proofs.Common.{◌≡◌, ℕ, List, Contains, Option, Some, refl, sym, ap, subst, ◌∙◌, inl, inr, ⊎_elim}
use Rattle.std.specs.Prelude.{◌==◌, if◌then◌else◌}
use Rattle.std.specs.declared.cmp.Ordering.TheVariants.{Less}
use Rattle.std.specs.Ordering.{ordering_reverse}
use Rattle.std.proofs.lemmas.Bool.{cases_order}
use Rattle.bep_facts.specs.Orders.{order_cases}
use Rattle.bep_model.specs.declared.row.Row.{Row}
use Rattle.bep_model.specs.declared.reason.Reason.{Reason}
use Rattle.bep_model.specs.declared.firm_reason.FirmReason.{FirmReason}
use Rattle.bep_model.specs.declared.firm_reason.FirmReason.TheVariants.{VersionDiffers, ViewNotBelow, FlightNotBelow, PullNotBelow}
use Rattle.bep_model.specs.Tables.{Tables, Device, Folder, FileName, Shares}
use Rattle.bep_model.specs.Settled.{IsSettled}
use Rattle.bep_model.specs.Firm.{IsFirm}
use Rattle.bep_model.specs.FirmVerdict.{Firm, Unsettled, Loose, AsksFirmShare, AsksFirm, IsFirstLoose, firm_number_of}
use Rattle.bep_model.specs.Reasons.{Place, place_cmp}
use Rattle.bep_model.specs.Verdict.{Not, IsFirstFault}
use Rattle.bep_model.specs.Laws.{FirmIsFaultless, FirmVerdictIsUnique}
use Rattle.bep_model.proofs.Faultless.{settled_is_faultless_lem}
use Rattle.bep_model.proofs.Verdicts.{place_total, same_place, verdict_is_unique_lem}

-- ---- firm and the reasons

share_asks : (t : Tables) (rows : List Row) → IsFirm t rows → (reason : FirmReason) (row : Row) (device : Device) → Contains rows row → Shares t device row.folder → AsksFirmShare t reason row device
share_asks t rows firm VersionDiffers row device member shares = firm.own row device member shares
share_asks t rows firm ViewNotBelow row device member shares = λ entry viewed valid. firm.foreign row device member shares entry (record { known_by = inl viewed; valid = valid })
share_asks t rows firm FlightNotBelow row device member shares = λ entry flying valid. firm.foreign row device member shares entry (record { known_by = inr (inl flying); valid = valid })
share_asks t rows firm PullNotBelow row device member shares = λ entry target valid. firm.foreign row device member shares entry (record { known_by = inr (inr target); valid = valid })

asks : (t : Tables) (rows : List Row) → IsFirm t rows → (reason : FirmReason) (place : Place) → AsksFirm t rows reason place
asks t rows firm reason place row device member key here shares =
    share_asks t rows firm reason row device member (subst (λ (folder : Folder). Shares t device folder) (sym (ap (λ (k : Folder × FileName). k.0) key)) shares)

module _ (t : Tables) (rows : List Row) (settled : IsSettled t rows) (all : (reason : FirmReason) (place : Place) → AsksFirm t rows reason place) where
  at : (reason : FirmReason) (row : Row) (device : Device) → Contains rows row → Shares t device row.folder → AsksFirmShare t reason row device
  at reason row device member shares = all reason (record { folder = row.folder; name = row.entry.name; device = Some device }) row device member refl refl shares

  firm_from_asks : IsFirm t rows
  firm_from_asks = record {
    settled = settled;
    own = λ row device member shares. at VersionDiffers row device member shares;
    foreign = λ row device member shares entry foreign.
        ⊎_elim
        (λ viewed. at ViewNotBelow row device member shares entry viewed foreign.valid)
        (λ rest.
        ⊎_elim
        (λ flying. at FlightNotBelow row device member shares entry flying foreign.valid)
        (λ target. at PullNotBelow row device member shares entry target foreign.valid)
        rest)
        foreign.known_by;
  }

pub firm_is_faultless_lem : FirmIsFaultless
firm_is_faultless_lem t rows = (λ firm. (firm.settled, asks t rows firm), λ both. firm_from_asks t rows both.0 both.1)

-- ---- one verdict

-- the reason at a place in the order
reason_at : ℕ → FirmReason
reason_at n = if n == 1 then VersionDiffers else if n == 2 then ViewNotBelow else if n == 3 then FlightNotBelow else PullNotBelow

reason_at_number : (reason : FirmReason) → reason_at (firm_number_of reason) ≡ reason
unfolding reason_at
reason_at_number VersionDiffers = refl
reason_at_number ViewNotBelow = refl
reason_at_number FlightNotBelow = refl
reason_at_number PullNotBelow = refl

module _ (t : Tables) (rows : List Row) where
  same_loose_reason : (reason other : FirmReason) (place other_place : Place) → IsFirstLoose t rows reason place → IsFirstLoose t rows other other_place → reason ≡ other
  same_loose_reason reason other place other_place one two =
      ⊎_elim
      (λ same. sym (reason_at_number reason) ∙ ap reason_at same ∙ reason_at_number other)
      (⊎_elim
      (λ less. absurd (one.fails (two.least reason place less)))
      (λ less. absurd (two.fails (one.least other other_place less))))
      (cases_order (firm_number_of reason) (firm_number_of other))

  same_loose_place : (reason : FirmReason) (place other : Place) → IsFirstLoose t rows reason place → IsFirstLoose t rows reason other → place ≡ other
  same_loose_place reason place other one two =
      ⊎_elim
      (λ less. absurd (one.fails (two.first place less)))
      (⊎_elim
      (λ equal. same_place place other equal)
      (λ greater.
      let less : place_cmp other place ≡ Less = place_total.antisymm other place ∙ ap ordering_reverse greater in
      absurd (two.fails (one.first other less))))
      (order_cases (place_cmp place other))

  same_loose : (reason other : FirmReason) (folder other_folder : Folder) (name other_name : FileName) (device other_device : Device) →
      IsFirstLoose t rows reason (record { folder = folder; name = name; device = Some device }) →
      IsFirstLoose t rows other (record { folder = other_folder; name = other_name; device = Some other_device }) →
      Loose reason folder name device ≡ Loose other other_folder other_name other_device
  same_loose reason other folder other_folder name other_name device other_device one two =
      let reasons = same_loose_reason reason other _ _ one two in
      let places = same_loose_place other _ _ (subst (λ (r : FirmReason). IsFirstLoose t rows r (record { folder = folder; name = name; device = Some device })) reasons one) two in
      let devices : Some device ≡ Some other_device = ap (λ (p : Place). p.device) places in
      let same_device : device ≡ other_device = cc in
      λ i. Loose (reasons i) (places i).folder (places i).name (same_device i)

  settled_not_at_fault : (folder : Folder) (name : FileName) (reason : Reason) (device : Option Device) → IsSettled t rows → ¬ IsFirstFault t rows reason (record { folder = folder; name = name; device = device })
  settled_not_at_fault folder name reason device settled fault = fault.fails ((settled_is_faultless_lem t rows).0 settled reason _)

pub firm_verdict_is_unique_lem : FirmVerdictIsUnique
firm_verdict_is_unique_lem t rows Firm Firm one two = refl
firm_verdict_is_unique_lem t rows Firm (Unsettled reason folder name device) one two = absurd (settled_not_at_fault t rows folder name reason device one.settled two)
firm_verdict_is_unique_lem t rows Firm (Loose reason folder name device) one two = absurd (two.1.fails (asks t rows one reason _))
firm_verdict_is_unique_lem t rows (Unsettled reason folder name device) Firm one two = absurd (settled_not_at_fault t rows folder name reason device two.settled one)
firm_verdict_is_unique_lem t rows (Unsettled reason folder name device) (Unsettled other other_folder other_name other_device) one two =
    let same = verdict_is_unique_lem t rows (Not reason folder name device) (Not other other_folder other_name other_device) one two in
    cc
firm_verdict_is_unique_lem t rows (Unsettled reason folder name device) (Loose other other_folder other_name other_device) one two = absurd (settled_not_at_fault t rows folder name reason device two.0 one)
firm_verdict_is_unique_lem t rows (Loose reason folder name device) Firm one two = absurd (one.1.fails (asks t rows two reason _))
firm_verdict_is_unique_lem t rows (Loose reason folder name device) (Unsettled other other_folder other_name other_device) one two = absurd (settled_not_at_fault t rows other_folder other_name other other_device one.0 two)
firm_verdict_is_unique_lem t rows (Loose reason folder name device) (Loose other other_folder other_name other_device) one two =
    same_loose t rows reason other folder other_folder name other_name device other_device one.1 two.1
