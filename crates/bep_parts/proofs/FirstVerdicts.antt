-- The verdict on a cut is the first of the verdicts on its parts.
use Rattle.std.proofs.Common.{◌≡◌, ◌≢◌, ◌<◌, ◌∙◌, ℕ, true, List, map, Contains, Option, Some, refl, sym, ap, subst, ⊎_elim, arith}
use Rattle.std.specs.Prelude.{◌==◌, if◌then◌else◌}
use Rattle.std.specs.declared.cmp.Ordering.TheVariants.{Less, Greater}
use Rattle.bep_facts.specs.Members.{Contains-from_image}
use Rattle.bep_facts.specs.Orders.{order_cases}
use Rattle.bep_model.specs.declared.row.Row.{Row}
use Rattle.bep_model.specs.declared.reason.Reason.{Reason}
use Rattle.bep_model.specs.declared.firm_reason.FirmReason.{FirmReason}
use Rattle.bep_model.specs.declared.firm_reason.FirmReason.TheVariants.{VersionDiffers, ViewNotBelow, FlightNotBelow, PullNotBelow}
use Rattle.bep_model.specs.Tables.{Tables, Device, Folder, FileName}
use Rattle.bep_model.specs.Settled.{Rise, IsSettled}
use Rattle.bep_model.specs.Firm.{IsFirm}
use Rattle.bep_model.specs.Reasons.{Place, place_cmp, Asks}
use Rattle.bep_model.specs.Verdict.{Verdict, Settled, Not, number_of, IsFirstFault, IsVerdict}
use Rattle.bep_model.specs.FirmVerdict.{FirmVerdict, Firm, Unsettled, Loose, AsksFirm, IsFirstLoose, IsFirmVerdict, firm_number_of}
use Rattle.bep_model.proofs.Faultless.{settled_is_faultless_lem}
use Rattle.bep_model.proofs.FirmVerdicts.{firm_is_faultless_lem}
use Rattle.bep_model.proofs.Verdicts.{place_total, same_from_number, same_place}
use Rattle.bep_parts.specs.Parts.{Keeps, IsInSome, only, rows_of}
use Rattle.bep_parts.specs.FirstVerdict.{ComesUpTo, FirmComesUpTo, FirmJudged, Judged, place_of}
use Rattle.bep_parts.specs.Laws.{FirmVerdictByParts, VerdictByParts}
use Rattle.bep_parts.proofs.AskedOfParts.{faults_by_parts_lem, firm_by_many_parts, firm_faults_by_parts_lem, settled_by_many_parts}

-- what is below a place is below each that doesn't come before this place
below : (earlier place later : Place) → place_cmp earlier place ≡ Less → place_cmp place later ≢ Greater → place_cmp earlier later ≡ Less
below earlier place later less up_to =
    ⊎_elim
    (λ also. place_total.trans earlier place later less also)
    (λ rest.
    ⊎_elim
    (λ tied. subst (λ (p : Place). place_cmp earlier p ≡ Less) (same_place place later tied) less)
    (λ greater. absurd (up_to greater))
    rest)
    (order_cases (place_cmp place later))

-- ---- one part

module _ (t : Tables) (rows : List Row) where
  settled_of : (verdict : Verdict) → ComesUpTo Settled verdict → IsVerdict t rows verdict → IsSettled t rows
  settled_of Settled last is = is
  settled_of (Not reason folder name device) last is = absurd last

  -- where the verdict comes no earlier than a fault, no lesser reason fails, and this one fails at no earlier place
  none_lesser : (reason : Reason) (place : Place) (verdict : Verdict) → IsVerdict t rows verdict → ComesUpTo (Not reason place.folder place.name place.device) verdict →
      (lesser : Reason) (any : Place) → number_of lesser < number_of reason → Asks t rows lesser any
  none_lesser reason place Settled is up_to lesser any less = (settled_is_faultless_lem t rows).0 is lesser any
  none_lesser reason place (Not other folder name device) is up_to lesser any less =
      is.least lesser any (⊎_elim (λ before. omega arith) (λ same. let e = same.0 in omega arith) up_to)

  none_earlier : (reason : Reason) (place : Place) (verdict : Verdict) → IsVerdict t rows verdict → ComesUpTo (Not reason place.folder place.name place.device) verdict →
      (earlier : Place) → place_cmp earlier place ≡ Less → Asks t rows reason earlier
  none_earlier reason place Settled is up_to earlier less = (settled_is_faultless_lem t rows).0 is reason earlier
  none_earlier reason place (Not other folder name device) is up_to earlier less =
      ⊎_elim
      (λ before. is.least reason earlier before)
      (λ same.
      subst (λ (r : Reason). Asks t rows r earlier) (sym (same_from_number reason other same.0))
      (is.first earlier (below earlier place (place_of folder name device) less same.1)))
      up_to

-- ---- all parts

module _ (t : Tables) (rows : List Row) (rise : Rise rows) where
  -- a part that keeps the name of a place, with a verdict on it that comes no earlier than the fault
  record IsJudged (reason : Reason) (place any : Place) : Type 0 where
    keeps : Keeps
    kept : keeps any.folder any.name ≡ true
    verdict : Verdict
    is : IsVerdict (only keeps t) (rows_of keeps rows) verdict
    up_to : ComesUpTo (Not reason place.folder place.name place.device) verdict

  first_fault : (keeps : Keeps) (reason : Reason) (place : Place) → IsFirstFault (only keeps t) (rows_of keeps rows) reason place → ((any : Place) → IsJudged reason place any) → IsFirstFault t rows reason place
  first_fault keeps reason place fault judged = record {
    fails = λ asks. fault.fails ((faults_by_parts_lem t keeps rows rise reason place).1 (λ kept. asks));
    least = λ lesser any less.
        let by = judged any in
        (faults_by_parts_lem t by.keeps rows rise lesser any).0
        (none_lesser (only by.keeps t) (rows_of by.keeps rows) reason place by.verdict by.is by.up_to lesser any less)
        by.kept;
    first = λ earlier less.
        let by = judged earlier in
        (faults_by_parts_lem t by.keeps rows rise reason earlier).0
        (none_earlier (only by.keeps t) (rows_of by.keeps rows) reason place by.verdict by.is by.up_to earlier less)
        by.kept;
  }

-- each place's name is kept by some part
part_of : {Part : Type 0} (keeps : Part → Keeps) (parts : List Part) → ((folder : Folder) (name : FileName) → IsInSome (map keeps parts) folder name) → (any : Place) → (part : Part) × Contains parts part × (keeps part any.folder any.name ≡ true)
part_of keeps parts each any =
    let some = each any.folder any.name in
    let from = Contains-from_image keeps parts some.0 some.1 in
    (from.0, from.1, subst (λ (k : Keeps). k any.folder any.name ≡ true) (sym from.2) some.2)

-- what holds of each part holds of each test of a part
of_tests : {Part : Type 0} (keeps : Part → Keeps) (parts : List Part) (P : Keeps → Type 0) → ((part : Part) → Contains parts part → P (keeps part)) → (one : Keeps) → Contains (map keeps parts) one → P one
of_tests keeps parts P holds one there =
    let from = Contains-from_image keeps parts one there in
    subst P from.2 (holds from.0 from.1)

pub verdict_by_parts_lem : VerdictByParts
verdict_by_parts_lem t parts rows Settled rise each is first =
    settled_by_many_parts t (map (λ part. part.keeps) parts) rows rise each
    (of_tests (λ (part : Judged). part.keeps) parts (λ (keeps : Keeps). IsSettled (only keeps t) (rows_of keeps rows))
    (λ part there. settled_of (only part.keeps t) (rows_of part.keeps rows) part.verdict (first.first part there) (is part there)))
verdict_by_parts_lem t parts rows (Not reason folder name device) rise each is first =
    let among = first.among in
    first_fault t rows rise among.0.keeps reason (place_of folder name device)
    (subst (IsVerdict (only among.0.keeps t) (rows_of among.0.keeps rows)) among.2 (is among.0 among.1))
    (λ any.
    let by = part_of (λ (part : Judged). part.keeps) parts each any in
    record { keeps = by.0.keeps; kept = by.2; verdict = by.0.verdict; is = is by.0 by.1; up_to = first.first by.0 by.1 })

-- ---- where firm is asked for

-- what a verdict says of settled
settled_part : FirmVerdict → Verdict
settled_part Firm = Settled
settled_part (Unsettled reason folder name device) = Not reason folder name device
settled_part (Loose reason folder name device) = Settled

-- the reason of a number
firm_reason_at : ℕ → FirmReason
firm_reason_at n = if n == 1 then VersionDiffers else if n == 2 then ViewNotBelow else if n == 3 then FlightNotBelow else PullNotBelow

firm_reason_at_number : (reason : FirmReason) → firm_reason_at (firm_number_of reason) ≡ reason
unfolding firm_reason_at
firm_reason_at_number VersionDiffers = refl
firm_reason_at_number ViewNotBelow = refl
firm_reason_at_number FlightNotBelow = refl
firm_reason_at_number PullNotBelow = refl

module _ (t : Tables) (rows : List Row) where
  settled_part_is : (verdict : FirmVerdict) → IsFirmVerdict t rows verdict → IsVerdict t rows (settled_part verdict)
  unfolding settled_part
  settled_part_is Firm is = is.settled
  settled_part_is (Unsettled reason folder name device) is = is
  settled_part_is (Loose reason folder name device) is = is.0

  firm_of : (verdict : FirmVerdict) → FirmComesUpTo Firm verdict → IsFirmVerdict t rows verdict → IsFirm t rows
  firm_of Firm last is = is
  firm_of (Unsettled reason folder name device) last is = absurd last
  firm_of (Loose reason folder name device) last is = absurd last

  module _ (reason : FirmReason) (folder : Folder) (name : FileName) (device : Device) where
    settled_where_loose : (verdict : FirmVerdict) → FirmComesUpTo (Loose reason folder name device) verdict → IsFirmVerdict t rows verdict → IsSettled t rows
    settled_where_loose Firm up_to is = is.settled
    settled_where_loose (Unsettled other in_folder at_name of) up_to is = absurd up_to
    settled_where_loose (Loose other in_folder at_name of) up_to is = is.0

    none_looser : (verdict : FirmVerdict) → IsFirmVerdict t rows verdict → FirmComesUpTo (Loose reason folder name device) verdict →
        (lesser : FirmReason) (any : Place) → firm_number_of lesser < firm_number_of reason → AsksFirm t rows lesser any
    none_looser Firm is up_to lesser any less = ((firm_is_faultless_lem t rows).0 is).1 lesser any
    none_looser (Unsettled other in_folder at_name of) is up_to lesser any less = absurd up_to
    none_looser (Loose other in_folder at_name of) is up_to lesser any less =
        is.1.least lesser any (⊎_elim (λ before. omega arith) (λ same. let e = same.0 in omega arith) up_to)

    none_loose_earlier : (verdict : FirmVerdict) → IsFirmVerdict t rows verdict → FirmComesUpTo (Loose reason folder name device) verdict →
        (earlier : Place) → place_cmp earlier (place_of folder name (Some device)) ≡ Less → AsksFirm t rows reason earlier
    none_loose_earlier Firm is up_to earlier less = ((firm_is_faultless_lem t rows).0 is).1 reason earlier
    none_loose_earlier (Unsettled other in_folder at_name of) is up_to earlier less = absurd up_to
    none_loose_earlier (Loose other in_folder at_name of) is up_to earlier less =
        ⊎_elim
        (λ before. is.1.least reason earlier before)
        (λ same.
        let reasons : other ≡ reason = sym (firm_reason_at_number other) ∙ ap firm_reason_at (sym same.0) ∙ firm_reason_at_number reason in
        subst (λ (r : FirmReason). AsksFirm t rows r earlier) reasons
        (is.1.first earlier (below earlier (place_of folder name (Some device)) (place_of in_folder at_name (Some of)) less same.1)))
        up_to

-- what isn't settled of a part comes no earlier than what isn't settled of the whole
unsettled_up_to : (reason : Reason) (folder : Folder) (name : FileName) (device : Option Device) (verdict : FirmVerdict) → FirmComesUpTo (Unsettled reason folder name device) verdict → ComesUpTo (Not reason folder name device) (settled_part verdict)
unfolding settled_part
unsettled_up_to reason folder name device Firm up_to = tt
unsettled_up_to reason folder name device (Unsettled other in_folder at_name of) up_to = up_to
unsettled_up_to reason folder name device (Loose other in_folder at_name of) up_to = tt

module _ (t : Tables) (parts : List FirmJudged) (rows : List Row) (rise : Rise rows) (each : (folder : Folder) (name : FileName) → IsInSome (map (λ (part : FirmJudged). part.keeps) parts) folder name) (is : (part : FirmJudged) → Contains parts part → IsFirmVerdict (only part.keeps t) (rows_of part.keeps rows) part.verdict) where
  keeper : (any : Place) → (part : FirmJudged) × Contains parts part × (part.keeps any.folder any.name ≡ true)
  keeper = part_of (λ (part : FirmJudged). part.keeps) parts each

  first_loose : (reason : FirmReason) (folder : Folder) (name : FileName) (device : Device) → ((part : FirmJudged) → Contains parts part → FirmComesUpTo (Loose reason folder name device) part.verdict) →
      (part : FirmJudged) → Contains parts part → IsFirstLoose (only part.keeps t) (rows_of part.keeps rows) reason (place_of folder name (Some device)) → IsFirstLoose t rows reason (place_of folder name (Some device))
  first_loose reason folder name device first part there loose = record {
    fails = λ asks. loose.fails ((firm_faults_by_parts_lem t part.keeps rows rise reason (place_of folder name (Some device))).1 (λ kept. asks));
    least = λ lesser any less.
        let by = keeper any in
        (firm_faults_by_parts_lem t by.0.keeps rows rise lesser any).0
        (none_looser (only by.0.keeps t) (rows_of by.0.keeps rows) reason folder name device by.0.verdict (is by.0 by.1) (first by.0 by.1) lesser any less)
        by.2;
    first = λ earlier less.
        let by = keeper earlier in
        (firm_faults_by_parts_lem t by.0.keeps rows rise reason earlier).0
        (none_loose_earlier (only by.0.keeps t) (rows_of by.0.keeps rows) reason folder name device by.0.verdict (is by.0 by.1) (first by.0 by.1) earlier less)
        by.2;
  }

pub firm_verdict_by_parts_lem : FirmVerdictByParts
firm_verdict_by_parts_lem t parts rows Firm rise each is first =
    firm_by_many_parts t (map (λ part. part.keeps) parts) rows rise each
    (of_tests (λ (part : FirmJudged). part.keeps) parts (λ (keeps : Keeps). IsFirm (only keeps t) (rows_of keeps rows))
    (λ part there. firm_of (only part.keeps t) (rows_of part.keeps rows) part.verdict (first.first part there) (is part there)))
firm_verdict_by_parts_lem t parts rows (Unsettled reason folder name device) rise each is first =
    let among = first.among in
    first_fault t rows rise among.0.keeps reason (place_of folder name device)
    (subst (IsFirmVerdict (only among.0.keeps t) (rows_of among.0.keeps rows)) among.2 (is among.0 among.1))
    (λ any.
    let by = keeper t parts rows rise each is any in
    record {
      keeps = by.0.keeps;
      kept = by.2;
      verdict = settled_part by.0.verdict;
      is = settled_part_is (only by.0.keeps t) (rows_of by.0.keeps rows) by.0.verdict (is by.0 by.1);
      up_to = unsettled_up_to reason folder name device by.0.verdict (first.first by.0 by.1);
    })
firm_verdict_by_parts_lem t parts rows (Loose reason folder name device) rise each is first =
    let among = first.among in
    let loose = subst (IsFirmVerdict (only among.0.keeps t) (rows_of among.0.keeps rows)) among.2 (is among.0 among.1) in (
      settled_by_many_parts t (map (λ part. part.keeps) parts) rows rise each
          (of_tests (λ (part : FirmJudged). part.keeps) parts (λ (keeps : Keeps). IsSettled (only keeps t) (rows_of keeps rows))
          (λ part there. settled_where_loose (only part.keeps t) (rows_of part.keeps rows) reason folder name device part.verdict (first.first part there) (is part there))),
      first_loose t parts rows rise each is reason folder name device first.first among.0 among.1 loose.1,
    )
