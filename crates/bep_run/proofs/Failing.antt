-- Why a running cluster doesn't begin, or gives no cut, by what its parts say.
use Rattle.std.proofs.Common.{◌≡◌, ◌⊎◌, ◌↔◌, ℕ, Option, Some, None, Result, Ok, Err, IsSome, true, false, inl, inr, refl, sym, ap, subst, ◌∙◌, ⊎_elim}
use Rattle.std.specs.Prelude.{IfErr, IsErrOf}
use Rattle.atomic_table.specs.Seated.{TableId}
use Rattle.bep_log.specs.declared.error.LogError.{LogError}
use Rattle.bep_log.specs.declared.error.LogError.TheVariants.{Memory, Refused}
use Rattle.bep_machine.specs.declared.refusal.Refusal.TheVariants.{StoreFault}
use Rattle.bep_store.specs.Sure.{NeverFails}
use Rattle.bep_run.specs.Why.{IsOfCopies, IsOfStores, IsOfTurns}
use Rattle.bep_run.specs.inner.Looking.{IsOfCopy}

-- a device that wasn't taken
pub stores_failed : {S A : Type 0} (faults : S → ℕ) (answer : Result A LogError) → IfErr answer (λ e. (e ≡ Refused StoreFault) ⊎ (e ≡ Memory)) →
    (NeverFails faults → ¬ IsErrOf answer (Refused StoreFault)) → IfErr answer (IsOfStores faults)
stores_failed faults (Ok made) only sure = tt
stores_failed faults (Err error) only sure = ⊎_elim (λ is. inl (is, λ never. sure never (ap Err is))) inr only

-- ---- a device that wasn't copied, by the call of a store that failed, if one did

module _ {S A : Type 0} (faults : S → ℕ) (failed told : Option ℕ) (answer : Result A LogError) (only : IfErr answer (λ e. (e ≡ Refused StoreFault) ⊎ (e ≡ Memory))) (fault : IsErrOf answer (Refused StoreFault) ↔ IsSome failed) where
  pub copies_failed : told ≡ failed → (NeverFails faults → told ≡ None) → IfErr answer (IsOfCopies faults)
  copies_failed is sure = cases answer only fault
    where
      cases : (answer : Result A LogError) → IfErr answer (λ e. (e ≡ Refused StoreFault) ⊎ (e ≡ Memory)) → (IsErrOf answer (Refused StoreFault) ↔ IsSome failed) → IfErr answer (IsOfCopies faults)
      cases (Ok made) only fault = tt
      cases (Err error) only fault =
          ⊎_elim
          (λ same. inr (inl (same, λ never. absurd (let e : false ≡ true = subst (λ (o : Option ℕ). IsSome o) (sym is ∙ sure never) (fault.0 (ap Err same)) in cc))))
          (λ same. inr (inr same))
          only

  pub copy_failed : IfErr answer (IsOfCopy failed)
  copy_failed = cases answer failed only fault
    where
      cases : (answer : Result A LogError) (failed : Option ℕ) → IfErr answer (λ e. (e ≡ Refused StoreFault) ⊎ (e ≡ Memory)) → (IsErrOf answer (Refused StoreFault) ↔ IsSome failed) → IfErr answer (IsOfCopy failed)
      cases (Ok made) failed only fault = tt
      cases (Err error) None only fault = ⊎_elim (λ same. inr (inl (same, fault.0 (ap Err same)))) (λ same. inr (inr (same, refl))) only
      cases (Err error) (Some call) only fault =
          let both = fault.1 refl in
          inr (inl (let is : error ≡ Refused StoreFault = cc in is, refl))

-- ---- what becomes of a cluster that is handed over

-- turns that end too early, where a history is known
pub turns_where_known : {S : Type 0} (faults : S → ℕ) (table : Option TableId) (id : TableId) (error : LogError) → table ≡ Some id → IsOfTurns table error → IsOfCopies faults error
turns_where_known faults table id error is of =
    ⊎_elim
    (λ old. absurd (let e : Some id ≡ None = sym is ∙ old.1 in cc))
    (λ places. ⊎_elim (λ same. inl same) (λ same. inr (inr same)) places)
    of

pub stores_of_copies : {S : Type 0} (faults : S → ℕ) (error : LogError) → IsOfStores faults error → IsOfCopies faults error
stores_of_copies faults error of = inr of
