-- The numbers under which the product prints a refusal (this project's profile).
use Rattle.std.specs.Prelude.{ℕ, Option, Some, None}
use Rattle.bep_record.specs.declared.error.RecordError.{RecordError}
use Rattle.bep_record.specs.declared.error.RecordError.TheVariants.{CounterFull, TooManyCounters, NameBad, NodeBad, FileTooLarge, Memory}

abbrev pub number_of : RecordError → Option ℕ
number_of CounterFull = Some 101
number_of TooManyCounters = Some 102
number_of NameBad = Some 103
number_of NodeBad = Some 104
number_of FileTooLarge = Some 112
number_of Memory = None
