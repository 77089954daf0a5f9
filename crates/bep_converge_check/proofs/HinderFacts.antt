-- Only equal ones tie of what keeps a cut from converging; what one test adds; and what the list of all of them says.
use Rattle.std.proofs.Common.{◌≡◌, ◌↔◌, Bool, List, [], ◌∷◌, ◌++◌, IsTrue, map, sym, ap, subst, ◌∙◌, inl, inr, ⊎_elim}
use Rattle.std.specs.Prelude.{if◌then◌else◌}
use Rattle.std.specs.declared.cmp.Ordering.{Ordering}
use Rattle.std.specs.declared.cmp.Ordering.TheVariants.{Less, Equal, Greater}
use Rattle.std.specs.Ordering.{nat_cmp, ordering_then}
use Rattle.std.specs.List.Sorted.{IsSorted, IsPermutation}
use Rattle.std.proofs.lemmas.Cmp.{nat_cmp_total, tied_itself}
use Rattle.bep_facts.specs.Decided.{OrNot}
use Rattle.bep_facts.specs.Members.{Contains-first, not_in_none}
use Rattle.bep_facts.specs.Orders.{order_cases, both_tied, Equal_from_same}
use Rattle.bep_model.specs.Tables.{Tables}
use Rattle.bep_model.specs.Reasons.{place_cmp}
use Rattle.bep_audit.proofs.FailingRow.{less_by_order}
use Rattle.bep_converge.specs.Prevails.{AllPrevail}
use Rattle.bep_converge.specs.ConvergeReasons.{converge_number_of}
use Rattle.bep_converge.specs.ConvergeVerdict.{IsConvergeVerdict}
use Rattle.bep_converge.specs.Laws.{ConvergingIsFaultless}
use Rattle.bep_gather.specs.Adding.{AddsFailing}
use Rattle.bep_gather.specs.AddFacts.{adds_unless}
use Rattle.bep_gather.specs.Distinct.{distinct}
use Rattle.bep_gather.specs.KeptFacts as kept
use Rattle.bep_gather.specs.PlaceFacts as places
use Rattle.bep_converge_check.specs.declared.hindrance.Hindrance.{Hindrance}
use Rattle.bep_converge_check.specs.Hindrance.{Hinder, hinder_cmp, hinder_shown}
use Rattle.bep_converge_check.specs.inner.HindranceOrder.{hinder_total, hinder_lent_cmp}
use Rattle.bep_converge_check.specs.Hindrances.{AreHindrances, IsMetThere, converge_verdict_of}
use Rattle.bep_converge_check.proofs.DeviceReasons.{same_number}

pub hinder_exact : (one other : Hinder) → hinder_cmp one other ≡ Equal → one ≡ other
hinder_exact one other tied =
    let both = both_tied (nat_cmp (converge_number_of one.reason) (converge_number_of other.reason)) (place_cmp one.place other.place) tied in
    let reason = same_number one.reason other.reason (places.same_number (converge_number_of one.reason) (converge_number_of other.reason) both.0) in
    let place = places.same_place one.place other.place both.1 in
    λ i. record { reason = reason i; place = place i }

same_or_not : (one other : Hinder) → OrNot (one ≡ other)
same_or_not one other =
    ⊎_elim
    (λ less. inr (λ same. let e : Less ≡ Equal = sym less ∙ Equal_from_same hinder_total one other same in cc))
    (⊎_elim
    (λ equal. inl (hinder_exact one other equal))
    (λ greater. inr (λ same. let e : Greater ≡ Equal = sym greater ∙ Equal_from_same hinder_total one other same in cc)))
    (order_cases (hinder_cmp one other))

-- what one test adds
pub adds_at : (first said : Hinder) → first ≡ said → (Asked : Type 0) (holds : Bool) (old new : List Hinder) → IsTrue holds ↔ Asked → new ≡ (if holds then old else old ++ first ∷ []) → AddsFailing (λ one. one ≡ said → Asked) old new
adds_at first said same Asked holds old new exactly is =
    subst (λ (f : Hinder). AddsFailing (λ one. one ≡ f → Asked) old new) same (adds_unless first Asked (λ one. same_or_not one first) holds old new exactly is)

-- ---- all of them

module _ (t : Tables) where
  -- all that fails stands in the list, and nothing else
  abbrev pub Tells : List Hinder → Type 0
  Tells = kept.Tells hinder_cmp (IsMetThere t)

  pub tells : (gathered sorted found : List Hindrance) → AddsFailing (IsMetThere t) [] (map hinder_shown gathered) → IsPermutation gathered sorted → IsSorted hinder_lent_cmp sorted → found ≡ distinct hinder_lent_cmp sorted → Tells (map hinder_shown found)
  tells = kept.tells hinder_shown hinder_cmp hinder_total hinder_exact (IsMetThere t)

  pub are_hindrances : (found : List Hinder) → Tells found → AreHindrances t found
  are_hindrances found told = record { exact = kept.fails_exactly hinder_shown hinder_cmp hinder_total hinder_exact (IsMetThere t) found told; rise = told.rise }

  -- it is empty exactly where all prevail
  pub none_exactly : ConvergingIsFaultless → (found : List Hindrance) → Tells (map hinder_shown found) → (found ≡ []) ↔ AllPrevail t
  none_exactly faultless found told =
      let empty = kept.empty_exactly hinder_shown hinder_cmp hinder_total hinder_exact (IsMetThere t) found told in (
        λ none. (faultless t).1 (λ reason place. empty.0 none (record { reason = reason; place = place })),
        λ all. empty.1 (λ one. (faultless t).0 all one.reason one.place),
      )

  then_second : (o p : Ordering) → o ≡ Equal → p ≡ Less → ordering_then o p ≡ Less
  then_second Less p e f = absurd (cc)
  then_second Equal p e f = f
  then_second Greater p e f = absurd (cc)

  -- its first is the verdict
  pub tells_verdict : ConvergingIsFaultless → (found : List Hinder) → Tells found → IsConvergeVerdict t (converge_verdict_of found)
  tells_verdict faultless [] told =
      (faultless t).1 (λ reason place. ⊎_elim (λ there. absurd (not_in_none (record { reason = reason; place = place }) there)) (λ met. met) (told.rest (record { reason = reason; place = place })))
  tells_verdict faultless (one ∷ more) told = record {
    fails = told.fails one (Contains-first one more);
    least = λ lesser any below.
        kept.met_before hinder_cmp hinder_total (IsMetThere t) one more told (record { reason = lesser; place = any })
        (ap (λ (o : Ordering). ordering_then o (place_cmp any one.place)) (less_by_order (converge_number_of lesser) (converge_number_of one.reason) below));
    first = λ earlier less.
        kept.met_before hinder_cmp hinder_total (IsMetThere t) one more told (record { reason = one.reason; place = earlier })
        (then_second (nat_cmp (converge_number_of one.reason) (converge_number_of one.reason)) (place_cmp earlier one.place) (tied_itself nat_cmp_total (converge_number_of one.reason)) less);
  }
