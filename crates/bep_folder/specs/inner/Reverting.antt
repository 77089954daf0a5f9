-- What a revert does to index and store (Syncthing, 'Folder Types', in this project's profile).
use Rattle.std.specs.Prelude.{[], ◌≡◌, ◌⊎◌, ◌<◌, ℕ, Option, Some, None, Result, Ok, Err, IsSome}
use Rattle.std.specs.FinMap.{get, remove}
use Rattle.bep_record.specs.declared.entry.Entry.{Entry}
use Rattle.bep_record.specs.declared.node.NodeParts.{NodeParts}
use Rattle.bep_record.specs.Node.{IsClean}
use Rattle.bep_index.specs.Listing.{Listing}
use Rattle.bep_index.specs.Index.{IsSequenceFull, after_put}
use Rattle.bep_model.specs.Tables.{Device, FileName}
use Rattle.bep_machine.specs.Local.{deletion_of}
use Rattle.bep_machine.specs.declared.moved.Moved.{Moved}
use Rattle.bep_machine.specs.declared.moved.Moved.TheVariants.{Changed}
use Rattle.bep_folder.specs.declared.error.FolderError.{FolderError}
use Rattle.bep_folder.specs.declared.error.FolderError.TheVariants.{SequenceFull, StoreFault, Unscanned, Memory}
use Rattle.bep_folder.specs.Trace.{TracedStore, failed_now, next_call}

-- the number of the last call, after one that removes the node, if there is one
abbrev pub after_removal : Option NodeParts → ℕ → ℕ
after_removal None made = made
after_removal (Some node) made = next_call made

-- the record is put, and the name's node is gone, if there was one
pub record IsGone (name : FileName) (entry : Entry) (there : Option NodeParts) (index index_new : Listing) (store store_new : TracedStore) : Type 0 where
  pub numbers : ¬ IsSequenceFull index
  pub put : index_new ≡ after_put index entry
  pub contents : store_new.contents ≡ remove store.contents name
  pub faults : store_new.faults ≡ store.faults
  pub trace : store_new.trace ≡ store.trace
  pub made : store_new.made ≡ after_removal there store.made

-- the store failed at its next call, and index and store hold what they held
pub record IsStillThere (there : Option NodeParts) (index index_new : Listing) (store store_new : TracedStore) : Type 0 where
  pub numbers : ¬ IsSequenceFull index
  pub held : IsSome there
  pub index_same : index_new ≡ index
  pub contents : store_new.contents ≡ store.contents
  pub risen : store.faults < store_new.faults
  pub trace : store_new.trace ≡ failed_now (next_call store.made) store.trace
  pub made : store_new.made ≡ next_call store.made

-- The record is put, and the name's node goes, if there is one. Else index and store hold what they held: no number is
-- left, the store failed at its next call, or memory was wanting.
abbrev pub PutsAndRemoves : FileName → Entry → Option NodeParts → Listing → Listing → TracedStore → TracedStore → Result Moved FolderError → Type 0
PutsAndRemoves name entry there index index_new store store_new result =
    ((result ≡ Ok Changed) × IsGone name entry there index index_new store store_new) ⊎
    ((result ≡ Err SequenceFull) × IsSequenceFull index × (index_new ≡ index) × (store_new ≡ store)) ⊎
    ((result ≡ Err StoreFault) × IsStillThere there index index_new store store_new) ⊎
    ((result ≡ Err Memory) × (index_new ≡ index) × (store_new ≡ store))

-- The own record gives way to a deletion, and the name's node goes, if there is one. Else index and store hold what they
-- held: for one of those reasons, or since the node isn't what the record says.
abbrev pub GivesUp : Device → FileName → Option NodeParts → Listing → Listing → TracedStore → TracedStore → Result Moved FolderError → Type 0
GivesUp device name there index index_new store store_new result =
    ((result ≡ Err Unscanned) × (¬ IsClean there (get index.records name)) × (index_new ≡ index) × (store_new ≡ store)) ⊎
    ((own : Entry) × (get index.records name ≡ Some own) × IsClean there (Some own) × PutsAndRemoves name (deletion_of device name own []) there index index_new store store_new result)
