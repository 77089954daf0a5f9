-- What was told of a scenario, by the exit status (this project's profile).
use Rattle.std.specs.Prelude.{ℕ, List, Option}
use Rattle.bep_answer.specs.Status.{IsToldAs, certified_status_of, status_of}
use Rattle.bep_play.specs.Played.{IsEndOfBytes, IsRunOfBytes}

-- a scenario was run or refused
abbrev pub IsRunTold : Option (List ℕ) → Option (List ℕ) → Option (List ℕ) → Option (List ℕ) → ℕ → Type 0
IsRunTold = IsToldAs IsRunOfBytes status_of

-- the document of a scenario's end was written or the scenario refused
abbrev pub IsEndTold : Option (List ℕ) → Option (List ℕ) → Option (List ℕ) → Option (List ℕ) → ℕ → Type 0
IsEndTold = IsToldAs IsEndOfBytes certified_status_of
