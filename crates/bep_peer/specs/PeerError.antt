-- What an action of a device answers, as the table of steps has it.
use Rattle.std.specs.Prelude.{ℕ, Option, Some, None, Result, Ok, Err}
use Rattle.bep_machine.specs.declared.moved.Moved.{Moved}
use Rattle.bep_machine.specs.Answer.{Row, Done, Refused as Refuses, OutOfMemory, number_of as number_of_refusal}
use Rattle.bep_peer.specs.declared.error.PeerError.{PeerError}
use Rattle.bep_peer.specs.declared.error.PeerError.TheVariants.{Refused, Stale, Memory}

-- the numbers under which the product prints refusals
abbrev pub number_of : PeerError → Option ℕ
number_of (Refused refusal) = Some (number_of_refusal refusal)
number_of Stale = Some 148
number_of Memory = None

-- The row gives this state with what was answered. (No step answers `Stale`: nothing was scanned then.)
abbrev pub Gives : {S : Type 0} → Row S → S → Result Moved PeerError → Type 0
Gives row new (Ok moved) = row new (Done moved)
Gives row new (Err (Refused refusal)) = row new (Refuses refusal)
Gives row new (Err Stale) = ⊥
Gives row new (Err Memory) = row new OutOfMemory
