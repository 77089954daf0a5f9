-- Which of two answers comes first.
use Rattle.std.proofs.Common.{◌≡◌, ◌≢◌, ◌⊎◌, ◌<◌, ◌∙◌, ℕ, Bool, true, false, Option, refl, sym, ap, subst, inl, inr, ⊎_elim, arith}
use Rattle.std.specs.Prelude.{if◌then◌else◌}
use Rattle.std.specs.Ordering.{is_lt}
use Rattle.std.specs.declared.cmp.Ordering.TheVariants.{Less, Greater}
use Rattle.bep_converge.specs.ConvergeReasons.{converge_number_of}
use Rattle.bep_converge.specs.ConvergeVerdict as verdicts
use Rattle.bep_converge.specs.declared.converge_reason.ConvergeReason.{ConvergeReason}
use Rattle.bep_converge_check.specs.Hindrance.{Hinder, hinder_cmp}
use Rattle.bep_converge_parts.specs.FirstVerdict.{ConvergeComesUpTo}
use Rattle.bep_facts.specs.Orders.{order_cases}
use Rattle.bep_model.specs.Reasons.{Place, place_cmp}
use Rattle.bep_model.specs.Tables.{Device, Folder, FileName}
use Rattle.bep_model.proofs.Verdicts.{place_total, same_place}
use Rattle.bep_parts.specs.FirstVerdict.{IsUpTo}
use Rattle.bep_rows.proofs.Order.{Ranked, earlier_is_up_to, itself_is_up_to, later_is_up_to}
use Rattle.bep_rows_converge.specs.Standing.{hindering, joined, precedes, verdict_of}
use Rattle.bep_rows_converge.specs.declared.standing.ConvergeStanding.{ConvergeStanding}
use Rattle.bep_rows_converge.specs.declared.standing.ConvergeStanding.TheVariants.{Converging, Not}

abbrev rank : Hinder → Ranked
rank one = (converge_number_of one.reason, one.place)

-- ---- what comes no later than what comes no later

places_up_to : (one other third : Place) → place_cmp one other ≢ Greater → place_cmp other third ≢ Greater → place_cmp one third ≢ Greater
places_up_to one other third first second =
    ⊎_elim
    (λ less.
    ⊎_elim
    (λ also greater. let both = place_total.trans one other third less also in cc)
    (λ rest.
    ⊎_elim
    (λ tied. subst (λ (p : Place). place_cmp one p ≢ Greater) (same_place other third tied) first)
    (λ above. absurd (second above))
    rest)
    (order_cases (place_cmp other third)))
    (λ rest.
    ⊎_elim
    (λ tied. subst (λ (p : Place). place_cmp p third ≢ Greater) (sym (same_place one other tied)) second)
    (λ above. absurd (first above))
    rest)
    (order_cases (place_cmp one other))

ranks_up_to : (one other third : Ranked) → IsUpTo one.0 one.1 other.0 other.1 → IsUpTo other.0 other.1 third.0 third.1 → IsUpTo one.0 one.1 third.0 third.1
ranks_up_to one other third first second =
    ⊎_elim
    (λ less. inl (⊎_elim (λ also. omega (arith, less, also)) (λ same. let e = same.0 in omega (arith, less, e)) second))
    (λ same.
    let e = same.0 in
    ⊎_elim (λ less. inl (omega (arith, less, e))) (λ also. inr (same.0 ∙ also.0, places_up_to one.1 other.1 third.1 same.1 also.1)) second)
    first

pub itself : (verdict : verdicts.ConvergeVerdict) → ConvergeComesUpTo verdict verdict
itself verdicts.Converging = tt
itself (verdicts.NotConverging reason folder name device) = itself_is_up_to (rank (hindering reason folder name device))

pub verdicts_up_to : (one other third : verdicts.ConvergeVerdict) → ConvergeComesUpTo one other → ConvergeComesUpTo other third → ConvergeComesUpTo one third
verdicts_up_to verdicts.Converging verdicts.Converging verdicts.Converging first second = tt
verdicts_up_to verdicts.Converging verdicts.Converging (verdicts.NotConverging reason folder name device) first second = absurd second
verdicts_up_to verdicts.Converging (verdicts.NotConverging reason folder name device) third first second = absurd first
verdicts_up_to (verdicts.NotConverging reason folder name device) other verdicts.Converging first second = tt
verdicts_up_to (verdicts.NotConverging reason folder name device) verdicts.Converging (verdicts.NotConverging third third_folder third_name third_device) first second = absurd second
verdicts_up_to (verdicts.NotConverging reason folder name device) (verdicts.NotConverging other in_folder at_name of) (verdicts.NotConverging third third_folder third_name third_device) first second =
    ranks_up_to (rank (hindering reason folder name device)) (rank (hindering other in_folder at_name of)) (rank (hindering third third_folder third_name third_device)) first second

-- ---- the answer to earlier and later names

pub joined_is : (earlier later : ConvergeStanding) → (joined earlier later ≡ earlier) ⊎ (joined earlier later ≡ later)
joined_is earlier later = cases (precedes later earlier)
  where
    cases : (b : Bool) → ((if b then later else earlier) ≡ earlier) ⊎ ((if b then later else earlier) ≡ later)
    cases true = inr refl
    cases false = inl refl

pub joined_up_to : (earlier later : ConvergeStanding) → ConvergeComesUpTo (verdict_of (joined earlier later)) (verdict_of earlier) × ConvergeComesUpTo (verdict_of (joined earlier later)) (verdict_of later)
joined_up_to Converging Converging = (tt, tt)
joined_up_to Converging (Not reason folder name device) = (tt, itself_is_up_to (rank (hindering reason folder name device)))
joined_up_to (Not reason folder name device) Converging = (itself_is_up_to (rank (hindering reason folder name device)), tt)
joined_up_to (Not reason folder name device) (Not other in_folder at_name of) =
    cases (is_lt (hinder_cmp (hindering other in_folder at_name of) (hindering reason folder name device))) refl
  where
    cases : (b : Bool) → is_lt (hinder_cmp (hindering other in_folder at_name of) (hindering reason folder name device)) ≡ b →
        ConvergeComesUpTo (verdict_of (if b then Not other in_folder at_name of else Not reason folder name device)) (verdict_of (Not reason folder name device)) × ConvergeComesUpTo (verdict_of (if b then Not other in_folder at_name of else Not reason folder name device)) (verdict_of (Not other in_folder at_name of))
    cases true less = (
      later_is_up_to (rank (hindering other in_folder at_name of)) (rank (hindering reason folder name device)) less,
      itself_is_up_to (rank (hindering other in_folder at_name of)),
    )
    cases false not_less = (
      itself_is_up_to (rank (hindering reason folder name device)),
      earlier_is_up_to (rank (hindering other in_folder at_name of)) (rank (hindering reason folder name device)) not_less,
    )
