-- What a turn counts, and what it passes over (this project's profile).
use Rattle.std.specs.Prelude.{ℕ, ◌+◌, ◌-◌, ◌^◌, min, Option, Some, None, Result, Ok, Err}
use Rattle.bep_log.specs.declared.error.LogError.{LogError}
use Rattle.bep_log.specs.declared.error.LogError.TheVariants.{TicketOld, LogFull, Refused, Stale, Memory}

-- one more, up to the greatest number that a turn can answer
abbrev pub one_more : ℕ → ℕ
one_more done = min (done + 1) (2 ^ 64 - 1)

-- how many actions answered Ok, this one too; want of memory is the turn's answer, and so would an old ticket be
abbrev pub tally_of : {A : Type 0} → ℕ → Result A LogError → Result ℕ LogError
tally_of done (Ok answer) = Ok (one_more done)
tally_of done (Err TicketOld) = Err TicketOld
tally_of done (Err LogFull) = Ok done
tally_of done (Err (Refused refusal)) = Ok done
tally_of done (Err Stale) = Ok done
tally_of done (Err Memory) = Err Memory

-- what was read, if it was
abbrev pub passed_over : {A : Type 0} → Result A LogError → Result (Option A) LogError
passed_over (Ok found) = Ok (Some found)
passed_over (Err TicketOld) = Ok None
passed_over (Err LogFull) = Ok None
passed_over (Err (Refused refusal)) = Ok None
passed_over (Err Stale) = Ok None
passed_over (Err Memory) = Err Memory
