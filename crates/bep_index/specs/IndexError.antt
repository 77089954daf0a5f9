-- The numbers of this crate's refusals, as the product prints them.
use Rattle.std.specs.Prelude.{ℕ, Option, Some, None}
use Rattle.bep_index.specs.declared.error.IndexError.{IndexError}
use Rattle.bep_index.specs.declared.error.IndexError.TheVariants.{SequenceFull, IndexFull, BatchOld, BatchBad, Memory}

abbrev pub number_of : IndexError → Option ℕ
number_of SequenceFull = Some 121
number_of IndexFull = Some 122
number_of BatchOld = Some 123
number_of BatchBad = Some 124
number_of Memory = None
