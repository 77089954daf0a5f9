-- The verdict on a cut is the first of the verdicts on its parts.
use Rattle.std.proofs.Common.{◌≡◌, ◌≢◌, ◌<◌, ◌∙◌, ℕ, true, List, map, Contains, Option, sym, ap, subst, ⊎_elim, refl, arith}
use Rattle.std.specs.Prelude.{◌==◌, if◌then◌else◌}
use Rattle.std.specs.declared.cmp.Ordering.TheVariants.{Less, Greater}
use Rattle.bep_facts.specs.Members.{Contains-from_image}
use Rattle.bep_facts.specs.Orders.{order_cases}
use Rattle.bep_model.specs.Foreign.{IsKnown}
use Rattle.bep_model.specs.Reasons.{Place, place_cmp}
use Rattle.bep_model.specs.Tables.{Tables, Device, Folder, FileName}
use Rattle.bep_model.proofs.Verdicts.{place_total, same_place}
use Rattle.bep_converge.specs.ConvergeReasons.{AsksToConverge, converge_number_of}
use Rattle.bep_converge.specs.ConvergeVerdict.{ConvergeVerdict, Converging, IsConvergeVerdict, IsFirstHindrance, NotConverging}
use Rattle.bep_converge.specs.Laws.{ConvergingIsFaultless}
use Rattle.bep_converge.specs.Prevails.{AllPrevail}
use Rattle.bep_converge.specs.declared.converge_reason.ConvergeReason.{ConvergeReason}
use Rattle.bep_converge.specs.declared.converge_reason.ConvergeReason.TheVariants.{NothingPrevails, Concurrent, ContentDiffers, LocalOnly, StoreUnclean, StoreDiffers, SendOnly, WouldCopy}
use Rattle.bep_parts.specs.FirstVerdict.{place_of}
use Rattle.bep_parts.specs.Parts.{IsInSome, Keeps, only}
use Rattle.bep_converge_parts.specs.FirstVerdict.{ConvergeComesUpTo, ConvergeJudged, IsFirstConvergeVerdict}
use Rattle.bep_converge_parts.specs.Laws.{ConvergeVerdictByParts}
use Rattle.bep_converge_parts.proofs.Alike.{converge_faults_by_parts_lem}

-- the reason of a number
reason_at : ℕ → ConvergeReason
reason_at n =
    if n == 1 then NothingPrevails else if n == 2 then Concurrent else if n == 3 then ContentDiffers else if n == 4 then LocalOnly
    else if n == 5 then StoreUnclean else if n == 6 then StoreDiffers else if n == 7 then SendOnly else WouldCopy

reason_at_number : (reason : ConvergeReason) → reason_at (converge_number_of reason) ≡ reason
unfolding reason_at
reason_at_number NothingPrevails = refl
reason_at_number Concurrent = refl
reason_at_number ContentDiffers = refl
reason_at_number LocalOnly = refl
reason_at_number StoreUnclean = refl
reason_at_number StoreDiffers = refl
reason_at_number SendOnly = refl
reason_at_number WouldCopy = refl

same_reason : (reason other : ConvergeReason) → converge_number_of reason ≡ converge_number_of other → other ≡ reason
same_reason reason other same = sym (reason_at_number other) ∙ ap reason_at (sym same) ∙ reason_at_number reason

-- what is below a place is below each that doesn't come before this place
below : (earlier place later : Place) → place_cmp earlier place ≡ Less → place_cmp place later ≢ Greater → place_cmp earlier later ≡ Less
below earlier place later less up_to =
    ⊎_elim
    (λ also. place_total.trans earlier place later less also)
    (λ rest.
    ⊎_elim
    (λ tied. subst (λ (p : Place). place_cmp earlier p ≡ Less) (same_place place later tied) less)
    (λ greater. absurd (up_to greater))
    rest)
    (order_cases (place_cmp place later))

module _ (faultless : ConvergingIsFaultless) where
  -- ---- one part

  module _ (t : Tables) where
    all_prevail : (verdict : ConvergeVerdict) → ConvergeComesUpTo Converging verdict → IsConvergeVerdict t verdict → AllPrevail t
    all_prevail Converging last is = is
    all_prevail (NotConverging reason folder name device) last is = absurd last

    -- where the verdict comes no earlier than a hindrance, no lesser reason fails, and this one fails at no earlier place
    none_lesser : (reason : ConvergeReason) (place : Place) (verdict : ConvergeVerdict) → IsConvergeVerdict t verdict → ConvergeComesUpTo (NotConverging reason place.folder place.name place.device) verdict →
        (lesser : ConvergeReason) (any : Place) → converge_number_of lesser < converge_number_of reason → AsksToConverge t lesser any
    none_lesser reason place Converging is up_to lesser any less = (faultless t).0 is lesser any
    none_lesser reason place (NotConverging other folder name device) is up_to lesser any less =
        is.least lesser any (⊎_elim (λ before. omega arith) (λ same. let e = same.0 in omega arith) up_to)

    none_earlier : (reason : ConvergeReason) (place : Place) (verdict : ConvergeVerdict) → IsConvergeVerdict t verdict → ConvergeComesUpTo (NotConverging reason place.folder place.name place.device) verdict →
        (earlier : Place) → place_cmp earlier place ≡ Less → AsksToConverge t reason earlier
    none_earlier reason place Converging is up_to earlier less = (faultless t).0 is reason earlier
    none_earlier reason place (NotConverging other folder name device) is up_to earlier less =
        ⊎_elim
        (λ before. is.least reason earlier before)
        (λ same.
        subst (λ (r : ConvergeReason). AsksToConverge t r earlier) (same_reason reason other same.0)
        (is.first earlier (below earlier place (place_of folder name device) less same.1)))
        up_to

  -- ---- all parts

  module _ (t : Tables) (parts : List ConvergeJudged) (each : (folder : Folder) (name : FileName) → IsKnown t folder name → IsInSome (map (λ part. part.keeps) parts) folder name) (is : (part : ConvergeJudged) → Contains parts part → IsConvergeVerdict (only part.keeps t) part.verdict) where
    -- each known name is kept by some part
    keeper : (any : Place) → IsKnown t any.folder any.name → (part : ConvergeJudged) × Contains parts part × (part.keeps any.folder any.name ≡ true)
    keeper any known =
        let some = each any.folder any.name known in
        let from = Contains-from_image (λ (part : ConvergeJudged). part.keeps) parts some.0 some.1 in
        (from.0, from.1, subst (λ (k : Keeps). k any.folder any.name ≡ true) (sym from.2) some.2)

    -- what each part is asked at a place the whole is asked there
    asked_of_all : (reason : ConvergeReason) (any : Place) → ((part : ConvergeJudged) → Contains parts part → AsksToConverge (only part.keeps t) reason any) → AsksToConverge t reason any
    asked_of_all reason any asks = λ known.
        let by = keeper any known in
        (converge_faults_by_parts_lem t by.0.keeps reason any).0 (asks by.0 by.1) by.2 known

    converge_verdict_is : (verdict : ConvergeVerdict) → IsFirstConvergeVerdict parts verdict → IsConvergeVerdict t verdict
    converge_verdict_is Converging first =
        (faultless t).1
        (λ reason place.
        asked_of_all reason place
        (λ part member. (faultless (only part.keeps t)).0 (all_prevail (only part.keeps t) part.verdict (first.first part member) (is part member)) reason place))
    converge_verdict_is (NotConverging reason folder name device) first =
        let among = first.among in
        let place = place_of folder name device in
        let there = subst (IsConvergeVerdict (only among.0.keeps t)) among.2 (is among.0 among.1) in
        record {
          fails = λ asks. there.fails ((converge_faults_by_parts_lem t among.0.keeps reason place).1 (λ kept. asks));
          least = λ lesser any less.
              asked_of_all lesser any
              (λ part member. none_lesser (only part.keeps t) reason place part.verdict (is part member) (first.first part member) lesser any less);
          first = λ earlier less.
              asked_of_all reason earlier
              (λ part member. none_earlier (only part.keeps t) reason place part.verdict (is part member) (first.first part member) earlier less);
        }

pub converge_verdict_by_parts_lem : ConvergingIsFaultless → ConvergeVerdictByParts
converge_verdict_by_parts_lem faultless t parts verdict each is first = converge_verdict_is faultless t parts each is verdict first
