-- What a device knows of another device's index of a folder (BEP v1, 'Index' and 'Index Update').
use Rattle.std.specs.Prelude.{ℕ, ◌≤◌, List, [], ◌∷◌}
use Rattle.std.specs.FinMap.{empty}
use Rattle.bep_record.specs.declared.entry.Entry.{Entry}
use Rattle.bep_index.specs.Listing.{Listing}
use Rattle.bep_index.specs.Index.{IsIndex}
use Rattle.bep_index.specs.Batch.{last_sequence, with_all}

-- what holds of every view: what holds of the index that it is of
abbrev pub IsView : Listing → Type 0
IsView view = IsIndex view

-- nothing is known of the index of this id
abbrev pub cleared : ℕ → Listing
cleared id = record { id = id; sequence = 0; records = empty }

-- the batch replaces all that was known, as an Index does
abbrev pub replaced : Listing → List Entry → Listing
replaced view batch = record view { sequence = last_sequence 0 batch; records = with_all empty batch }

-- the batch adds to what was known and leaves other names alone, as an IndexUpdate does
abbrev pub amended : Listing → List Entry → Listing
amended view batch = record view { sequence = last_sequence view.sequence batch; records = with_all view.records batch }

-- the batch's first sequence isn't above the greatest that is known
abbrev pub IsOld : ℕ → List Entry → Type 0
IsOld known [] = ⊥
IsOld known (entry ∷ more) = entry.sequence ≤ known
