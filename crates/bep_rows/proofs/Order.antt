-- Which of two answers comes first.
use Rattle.std.proofs.Common.{◌≡◌, ◌≢◌, ℕ, true, false, refl, ap, ◌∙◌, inl, inr, ⊎_elim}
use Rattle.std.specs.Cmp.{IsTotalOrder}
use Rattle.std.specs.declared.cmp.Ordering.{Ordering}
use Rattle.std.specs.declared.cmp.Ordering.TheVariants.{Less, Equal, Greater}
use Rattle.std.specs.Ordering.{is_lt, nat_cmp, on, ordering_reverse, ordering_then, then_cmp}
use Rattle.std.proofs.lemmas.Bool.{cases_order}
use Rattle.std.proofs.lemmas.Cmp.{nat_cmp_total, on_total, then_total}
use Rattle.bep_facts.specs.Orders.{Equal_from_same}
use Rattle.bep_audit.specs.FailureOrder.{place_total}
use Rattle.bep_audit.specs.Loose.{Loosening}
use Rattle.bep_audit.specs.Walk.{Failure}
use Rattle.bep_audit.proofs.FailingRow.{less_by_order}
use Rattle.bep_model.specs.FirmVerdict.{firm_number_of}
use Rattle.bep_model.specs.Reasons.{Place, place_cmp}
use Rattle.bep_model.specs.Verdict.{number_of}
use Rattle.bep_parts.specs.FirstVerdict.{IsUpTo}

-- the number of a reason, and where it fails
abbrev pub Ranked : Type 0
Ranked = ℕ × Place

abbrev pub rank : Failure → Ranked
rank one = (number_of one.reason, one.place)

abbrev pub loose_rank : Loosening → Ranked
loose_rank one = (firm_number_of one.reason, one.place)

-- by number, then place
abbrev pub ranked_cmp : Ranked → Ranked → Ordering
ranked_cmp = then_cmp (on (λ one. one.0) nat_cmp) (on (λ one. one.1) place_cmp)

ranked_total : IsTotalOrder ranked_cmp
ranked_total = then_total (on_total (λ (one : Ranked). one.0) nat_cmp_total) (on_total (λ (one : Ranked). one.1) place_total)

-- what isn't above another is up to it
up_to : (one other : Ranked) → ranked_cmp one other ≢ Greater → IsUpTo one.0 one.1 other.0 other.1
up_to one other not_above =
    ⊎_elim
    (λ same. inr (same, λ greater. not_above (ap (λ o. ordering_then o (place_cmp one.1 other.1)) (Equal_from_same nat_cmp_total one.0 other.0 same) ∙ greater)))
    (λ rest.
    ⊎_elim inl
    (λ above. absurd (not_above (ap (λ o. ordering_then o (place_cmp one.1 other.1)) (nat_cmp_total.antisymm one.0 other.0 ∙ ap ordering_reverse (less_by_order other.0 one.0 above)))))
    rest)
    (cases_order one.0 other.0)

-- what is below isn't above
below_is_not_above : (o : Ordering) → is_lt o ≡ true → o ≢ Greater
below_is_not_above Less less greater = cc
below_is_not_above Equal less greater = cc
below_is_not_above Greater less greater = cc

pub later_is_up_to : (later earlier : Ranked) → is_lt (ranked_cmp later earlier) ≡ true → IsUpTo later.0 later.1 earlier.0 earlier.1
later_is_up_to later earlier less = up_to later earlier (below_is_not_above (ranked_cmp later earlier) less)

pub earlier_is_up_to : (later earlier : Ranked) → is_lt (ranked_cmp later earlier) ≡ false → IsUpTo earlier.0 earlier.1 later.0 later.1
earlier_is_up_to later earlier not_less =
    up_to earlier later
    (λ greater. let less : is_lt (ranked_cmp later earlier) ≡ true = ap is_lt (ranked_total.antisymm later earlier ∙ ap ordering_reverse greater) in cc)

pub itself_is_up_to : (one : Ranked) → IsUpTo one.0 one.1 one.0 one.1
itself_is_up_to one = up_to one one (λ greater. let tied = Equal_from_same ranked_total one one refl in cc)
