-- What a step answers, and how a row of the table of steps is read (this project's profile).
use Rattle.std.specs.Prelude.{◌≡◌, ◌⊎◌, ℕ}
use Rattle.bep_machine.specs.declared.moved.Moved.{Moved}
use Rattle.bep_machine.specs.declared.refusal.Refusal.{Refusal}
use Rattle.bep_machine.specs.declared.refusal.Refusal.TheVariants.{CounterFull, TooManyCounters, NameBad, SequenceFull, IndexFull, StoreFault, Unscanned, NotNeeded, BlocksMissing, CopyExists, PullsFull, KindForbids, IndexIdOld, LinkDown, LinkFull, EpochFull, NotBegun, NotShared, NothingToDo}

-- what a step did, or why it was refused, or that memory was wanting
pub data Answer : Type 0 where
  Done : Moved → Answer
  Refused : Refusal → Answer
  OutOfMemory : Answer

-- A row says which state and which answer may come of a step. (It is a relation, since a step may choose a record.)
abbrev pub Row : Type 0 → Type 1
Row S = S → Answer → Type 0

-- this state and this answer, and no other
abbrev pub becomes : {S : Type 0} → S → Answer → Row S
becomes made given new answer = (new ≡ made) × (answer ≡ given)

infix 5 when◌then◌else◌
-- where the condition holds the first row decides, else the second
abbrev pub when◌then◌else◌ : {S : Type 0} → Type 0 → Row S → Row S → Row S
when◌then◌else◌ condition one other new answer = (condition × one new answer) ⊎ ((¬ condition) × other new answer)

infixr 5 ◌answers◌when◌else◌
-- where the condition holds the state stays, and this is the answer; else the rest of the row decides
abbrev pub ◌answers◌when◌else◌ : {S : Type 0} → S → Answer → Type 0 → Row S → Row S
◌answers◌when◌else◌ old given condition rest = when◌then◌else◌ condition (becomes old given) rest

-- the numbers under which the product prints refusals
abbrev pub number_of : Refusal → ℕ
number_of CounterFull = 101
number_of TooManyCounters = 102
number_of NameBad = 103
number_of SequenceFull = 121
number_of IndexFull = 122
number_of StoreFault = 131
number_of Unscanned = 141
number_of NotNeeded = 142
number_of BlocksMissing = 143
number_of CopyExists = 145
number_of PullsFull = 146
number_of KindForbids = 147
number_of IndexIdOld = 149
number_of LinkDown = 151
number_of LinkFull = 152
number_of EpochFull = 153
number_of NotBegun = 161
number_of NotShared = 162
number_of NothingToDo = 163
