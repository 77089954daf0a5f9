-- What is found of a running cluster's devices and links, and why a device isn't copied (this project's profile).
use Rattle.std.specs.Prelude.{◌≡◌, ◌⊎◌, ℕ, Option, None, IsSome}
use Rattle.bep_log.specs.declared.error.LogError.{LogError}
use Rattle.bep_log.specs.declared.error.LogError.TheVariants.{Refused, Memory}
use Rattle.bep_machine.specs.declared.refusal.Refusal.TheVariants.{NotShared, StoreFault}
use Rattle.bep_model.specs.Tables.{Device}

-- the two are these, in whichever order
abbrev pub AreEnds : Device → Device → Device → Device → Type 0
AreEnds lower upper one other = ((lower ≡ one) × (upper ≡ other)) ⊎ ((lower ≡ other) × (upper ≡ one))

-- It stands at another place; a call of a store failed, as the device tells; or memory was wanting, and none failed.
abbrev pub IsOfCopy : Option ℕ → LogError → Type 0
IsOfCopy failed error =
    (error ≡ Refused NotShared) ⊎ (((error ≡ Refused StoreFault) × IsSome failed) ⊎ ((error ≡ Memory) × (failed ≡ None)))
