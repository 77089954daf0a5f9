-- The numbers of this crate's refusals, as the product prints them, and what a step answers where it is refused so.
use Rattle.std.specs.Prelude.{ℕ, Option, Some, None, Result, Ok, Err}
use Rattle.bep_machine.specs.declared.moved.Moved.TheVariants.{Changed}
use Rattle.bep_machine.specs.declared.refusal.Refusal.TheVariants as refusals
use Rattle.bep_machine.specs.Answer.{Answer, Done, Refused, OutOfMemory}
use Rattle.bep_links.specs.declared.error.LinkError.{LinkError}
use Rattle.bep_links.specs.declared.error.LinkError.TheVariants.{LinkDown, LinkFull, EpochFull, NothingToDo, Memory}

abbrev pub number_of : LinkError → Option ℕ
number_of LinkDown = Some 151
number_of LinkFull = Some 152
number_of EpochFull = Some 153
number_of NothingToDo = Some 163
number_of Memory = None

-- what a step answers where a call of this crate is refused
abbrev pub refused_by : LinkError → Answer
refused_by LinkDown = Refused refusals.LinkDown
refused_by LinkFull = Refused refusals.LinkFull
refused_by EpochFull = Refused refusals.EpochFull
refused_by NothingToDo = Refused refusals.NothingToDo
refused_by Memory = OutOfMemory

-- what a step answers that is one call of this crate
abbrev pub answer_of : {T : Type 0} → Result T LinkError → Answer
answer_of (Ok done) = Done Changed
answer_of (Err error) = refused_by error
