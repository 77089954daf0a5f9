-- What want of memory doesn't hide (this project's profile).
use Rattle.bep_machine.specs.declared.refusal.Refusal.{Refusal}
use Rattle.bep_machine.specs.Answer.{Row, Refused}

-- the row refuses nothing
abbrev pub RefusesNone : {S : Type 0} → Row S → Type 0
RefusesNone {S} row = (new : S) (refusal : Refusal) → ¬ row new (Refused refusal)
