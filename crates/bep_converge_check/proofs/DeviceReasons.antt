-- A walk over the reasons that ask something of devices, in their order.
use Rattle.std.proofs.Common.{◌≡◌, ◌+◌, ◌<◌, ◌≤◌, ℕ, zero, suc, List, [], ◌∷◌, Some, None, length, get_or, refl, sym, ap, subst, ◌∙◌, ⊎_elim, arith}
use Rattle.std.specs.Prelude.{◌==◌, ⊤, if◌then◌else◌}
use Rattle.std.specs.Ordering.{nat_cmp}
use Rattle.std.proofs.lemmas.Bool.{cases_eq}
use Rattle.bep_record.specs.declared.entry.Entry.{Entry}
use Rattle.bep_model.specs.Tables.{Device, FileName}
use Rattle.bep_tables.specs.declared.share.Share.{Share}
use Rattle.bep_audit.specs.inner.Search.{FindsFirst}
use Rattle.bep_audit.proofs.FailingRow.{less_by_order}
use Rattle.bep_converge.specs.declared.converge_reason.ConvergeReason.{ConvergeReason}
use Rattle.bep_converge.specs.declared.converge_reason.ConvergeReason.TheVariants.{NothingPrevails, Concurrent, ContentDiffers, LocalOnly, StoreUnclean, StoreDiffers, SendOnly, WouldCopy}
use Rattle.bep_converge.specs.ConvergeReasons.{converge_number_of}
use Rattle.bep_converge_check.specs.declared.unmet.TheConstants.{OF_DEVICES}
use Rattle.bep_converge_check.specs.inner.Unmet.{IsMetBy, FindsUnmet}

-- ---- the order of reasons

-- the reason of a number
reason_of : ℕ → ConvergeReason
reason_of n =
    if n == 1 then NothingPrevails else if n == 2 then Concurrent else if n == 3 then ContentDiffers else
    if n == 4 then LocalOnly else if n == 5 then StoreUnclean else if n == 6 then StoreDiffers else
    if n == 7 then SendOnly else WouldCopy

reason_of_number : (reason : ConvergeReason) → reason_of (converge_number_of reason) ≡ reason
unfolding reason_of
reason_of_number NothingPrevails = refl
reason_of_number Concurrent = refl
reason_of_number ContentDiffers = refl
reason_of_number LocalOnly = refl
reason_of_number StoreUnclean = refl
reason_of_number StoreDiffers = refl
reason_of_number SendOnly = refl
reason_of_number WouldCopy = refl

pub same_number : (one other : ConvergeReason) → converge_number_of one ≡ converge_number_of other → one ≡ other
same_number one other same = sym (reason_of_number one) ∙ ap reason_of same ∙ reason_of_number other

up_to_eight : (reason : ConvergeReason) → converge_number_of reason ≤ 8
up_to_eight NothingPrevails = omega arith
up_to_eight Concurrent = omega arith
up_to_eight ContentDiffers = omega arith
up_to_eight LocalOnly = omega arith
up_to_eight StoreUnclean = omega arith
up_to_eight StoreDiffers = omega arith
up_to_eight SendOnly = omega arith
up_to_eight WouldCopy = omega arith

-- reasons in their order, from this number on
abbrev AreNumbered : ℕ → List ConvergeReason → Type 0
AreNumbered n [] = ⊤
AreNumbered n (reason ∷ more) = (converge_number_of reason ≡ n) × AreNumbered (n + 1) more

number_at : (reasons : List ConvergeReason) (n k : ℕ) (d : ConvergeReason) → AreNumbered n reasons → k < length reasons → converge_number_of (get_or reasons k d) ≡ n + k
number_at [] n k d numbered below = absurd (omega arith)
number_at (reason ∷ more) n zero d numbered below = numbered.0 ∙ omega arith
number_at (reason ∷ more) n (suc k) d numbered below = number_at more (n + 1) k d numbered.1 (omega arith) ∙ omega arith

-- the reason that the walk has come to
abbrev pub reason_at : ℕ → ConvergeReason
reason_at place = get_or OF_DEVICES place NothingPrevails

number_of_reason_at : (place : ℕ) → place < 5 → converge_number_of (reason_at place) ≡ place + 4
number_of_reason_at place below = number_at OF_DEVICES 4 place NothingPrevails (refl, (refl, (refl, (refl, (refl, tt))))) below ∙ omega arith

-- ---- the walk

module _ (top : Entry) (name : FileName) (shares : List Share) where
  -- the reasons on a name as a whole ask nothing of devices
  pub whole_is_met : (reason : ConvergeReason) → converge_number_of reason ≤ 3 → (device : Device) → IsMetBy top name shares reason device
  whole_is_met NothingPrevails few device share member same = tt
  whole_is_met Concurrent few device share member same = tt
  whole_is_met ContentDiffers few device share member same = tt
  whole_is_met LocalOnly few device share member same = absurd (omega (arith, few))
  whole_is_met StoreUnclean few device share member same = absurd (omega (arith, few))
  whole_is_met StoreDiffers few device share member same = absurd (omega (arith, few))
  whole_is_met SendOnly few device share member same = absurd (omega (arith, few))
  whole_is_met WouldCopy few device share member same = absurd (omega (arith, few))

  -- none of the reasons before this place fails at any of the devices
  pub record AreMetBefore (place : ℕ) : Type 0 where
    pub holds : (lesser : ConvergeReason) (any : Device) → converge_number_of lesser ≤ place + 3 → IsMetBy top name shares lesser any

  pub reasons_start : AreMetBefore 0
  reasons_start = record { holds = λ lesser any below. whole_is_met lesser (omega (arith, below)) any }

  pub reasons_go_on : (place : ℕ) → place < 5 → AreMetBefore place → FindsFirst nat_cmp (IsMetBy top name shares (reason_at place)) None → AreMetBefore (place + 1)
  reasons_go_on place below before here = record {
    holds = λ lesser any up_to.
        let number = number_of_reason_at place below in
        ⊎_elim
        (λ same. subst (λ (reason : ConvergeReason). IsMetBy top name shares reason any) (sym (same_number lesser (reason_at place) (omega (arith, same, number)))) (here any))
        (λ differs. before.holds lesser any (omega (arith, up_to, differs)))
        (cases_eq (converge_number_of lesser) (place + 4));
  }

  pub reason_fails : (place : ℕ) → place < 5 → AreMetBefore place → (device : Device) → FindsFirst nat_cmp (IsMetBy top name shares (reason_at place)) (Some device) → FindsUnmet top name shares (Some (reason_at place, device))
  reason_fails place below before device first = record {
    fails = first.fails;
    least = λ lesser any less. before.holds lesser any (let number = number_of_reason_at place below in omega (arith, number, less));
    first = λ earlier less. first.before earlier (less_by_order earlier device less);
  }

  pub reasons_end : (place : ℕ) → 5 ≤ place → AreMetBefore place → FindsUnmet top name shares None
  reasons_end place past before reason device = before.holds reason device (let few = up_to_eight reason in omega (arith, few, past))
