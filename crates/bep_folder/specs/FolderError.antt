-- The refusals of this crate: their numbers, as the product prints them, and those that lower crates give.
use Rattle.std.specs.Prelude.{ℕ, Option, Some, None}
use Rattle.bep_store.specs.declared.error.StoreError.{StoreError}
use Rattle.bep_store.specs.declared.error.StoreError.TheVariants as store
use Rattle.bep_index.specs.declared.error.IndexError.{IndexError}
use Rattle.bep_index.specs.declared.error.IndexError.TheVariants as index
use Rattle.bep_folder.specs.declared.error.FolderError.{FolderError}
use Rattle.bep_folder.specs.declared.error.FolderError.TheVariants.{CounterFull, TooManyCounters, NameBad, SequenceFull, IndexFull, BatchOld, StoreFault, Unscanned, NotNeeded, BlocksMissing, HashBad, CopyExists, PullsFull, KindForbids, Stale, NotShared, NothingToDo, Memory}

abbrev pub number_of : FolderError → Option ℕ
number_of CounterFull = Some 101
number_of TooManyCounters = Some 102
number_of NameBad = Some 103
number_of SequenceFull = Some 121
number_of IndexFull = Some 122
number_of BatchOld = Some 123
number_of StoreFault = Some 131
number_of Unscanned = Some 141
number_of NotNeeded = Some 142
number_of BlocksMissing = Some 143
number_of HashBad = Some 144
number_of CopyExists = Some 145
number_of PullsFull = Some 146
number_of KindForbids = Some 147
number_of Stale = Some 148
number_of NotShared = Some 162
number_of NothingToDo = Some 163
number_of Memory = None

-- what a store answers
abbrev pub of_store : StoreError → FolderError
of_store store.Fault = StoreFault
of_store store.Memory = Memory

-- what an index or a view answers; that there is no batch isn't among it
abbrev pub of_index : IndexError → FolderError
of_index index.SequenceFull = SequenceFull
of_index index.IndexFull = IndexFull
of_index index.BatchOld = BatchOld
of_index index.BatchBad = BatchOld
of_index index.Memory = Memory
