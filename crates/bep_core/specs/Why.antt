-- The numbers and the names of refusals, as the product prints them.
use Rattle.std.specs.Prelude.{ℕ, List, Option, Some, None, Result, Ok, Err, codes}
use Rattle.bep_machine.specs.declared.refusal.Refusal.{Refusal}
use Rattle.bep_machine.specs.declared.refusal.Refusal.TheVariants.{CounterFull, TooManyCounters, NameBad, SequenceFull, IndexFull, StoreFault, Unscanned, NotNeeded, BlocksMissing, CopyExists, PullsFull, KindForbids, IndexIdOld, LinkDown, LinkFull, EpochFull, NotBegun, NotShared, NothingToDo}
use Rattle.bep_machine.specs.declared.moved.Moved.{Moved}
use Rattle.bep_machine.specs.Answer.{Row, Done, Refused as Refuses, OutOfMemory, number_of as number_of_refusal}
use Rattle.bep_peer.specs.declared.error.PeerError.{PeerError}
use Rattle.bep_peer.specs.declared.error.PeerError.TheVariants as peer
use Rattle.bep_core.specs.declared.why.Why.{Why}
use Rattle.bep_core.specs.declared.why.Why.TheVariants.{Refused, ConfigBad, Memory}

-- want of memory has neither
abbrev pub number_of : Why → Option ℕ
number_of (Refused refusal) = Some (number_of_refusal refusal)
number_of ConfigBad = Some 164
number_of Memory = None

abbrev pub name_of_refusal : Refusal → List ℕ
name_of_refusal CounterFull = codes "CounterFull"
name_of_refusal TooManyCounters = codes "TooManyCounters"
name_of_refusal NameBad = codes "NameBad"
name_of_refusal SequenceFull = codes "SequenceFull"
name_of_refusal IndexFull = codes "IndexFull"
name_of_refusal StoreFault = codes "StoreFault"
name_of_refusal Unscanned = codes "Unscanned"
name_of_refusal NotNeeded = codes "NotNeeded"
name_of_refusal BlocksMissing = codes "BlocksMissing"
name_of_refusal CopyExists = codes "CopyExists"
name_of_refusal PullsFull = codes "PullsFull"
name_of_refusal KindForbids = codes "KindForbids"
name_of_refusal IndexIdOld = codes "IndexIdOld"
name_of_refusal LinkDown = codes "LinkDown"
name_of_refusal LinkFull = codes "LinkFull"
name_of_refusal EpochFull = codes "EpochFull"
name_of_refusal NotBegun = codes "NotBegun"
name_of_refusal NotShared = codes "NotShared"
name_of_refusal NothingToDo = codes "NothingToDo"

abbrev pub name_of : Why → Option (List ℕ)
name_of (Refused refusal) = Some (name_of_refusal refusal)
name_of ConfigBad = Some (codes "ConfigBad")
name_of Memory = None

-- The row gives this state with what was answered. (A step is no configuration.)
abbrev pub Gives : {S : Type 0} → Row S → S → Result Moved Why → Type 0
Gives row new (Ok moved) = row new (Done moved)
Gives row new (Err (Refused refusal)) = row new (Refuses refusal)
Gives row new (Err ConfigBad) = ⊥
Gives row new (Err Memory) = row new OutOfMemory

-- what a device's action answers, as this crate's; no step answers `Stale`
abbrev pub why_of : PeerError → Why
why_of (peer.Refused refusal) = Refused refusal
why_of peer.Stale = Memory
why_of peer.Memory = Memory

abbrev pub answer_of : Result Moved PeerError → Result Moved Why
answer_of (Ok moved) = Ok moved
answer_of (Err error) = Err (why_of error)
