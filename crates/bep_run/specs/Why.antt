-- Why a running cluster doesn't begin, doesn't go on, or gives no cut (this project's profile).
use Rattle.std.specs.Prelude.{◌≡◌, ◌⊎◌, ℕ, Option, None}
use Rattle.atomic_table.specs.Seated.{TableId}
use Rattle.bep_log.specs.declared.error.LogError.{LogError}
use Rattle.bep_log.specs.declared.error.LogError.TheVariants.{TicketOld, Refused, Memory}
use Rattle.bep_machine.specs.declared.refusal.Refusal.TheVariants.{NotShared, StoreFault}
use Rattle.bep_store.specs.Sure.{NeverFails}

-- a store failed, of a kind that may fail; or memory was wanting
abbrev pub IsOfStores : {S : Type 0} → (S → ℕ) → LogError → Type 0
IsOfStores faults error = ((error ≡ Refused StoreFault) × (¬ NeverFails faults)) ⊎ (error ≡ Memory)

-- something doesn't stand where it should, or memory was wanting
abbrev pub IsOfPlaces : LogError → Type 0
IsOfPlaces error = (error ≡ Refused NotShared) ⊎ (error ≡ Memory)

-- something doesn't stand where it should, a store failed, or memory was wanting
abbrev pub IsOfCopies : {S : Type 0} → (S → ℕ) → LogError → Type 0
IsOfCopies faults error = (error ≡ Refused NotShared) ⊎ IsOfStores faults error

-- something doesn't stand where it should, or memory was wanting; or, where no history is known, a ticket was old
abbrev pub IsOfTurns : Option TableId → LogError → Type 0
IsOfTurns table error = ((error ≡ TicketOld) × (table ≡ None)) ⊎ IsOfPlaces error
