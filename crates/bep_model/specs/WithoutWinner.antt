-- Known names that have no winner, since no sharing device has a valid record of them (this project's profile).
use Rattle.std.specs.Prelude.{◌≡◌, Some}
use Rattle.std.specs.declared.cmp.Ordering.TheVariants.{Less}
use Rattle.bep_record.specs.declared.entry.Entry.{Entry}
use Rattle.bep_choice.specs.Choice.{Candidate}
use Rattle.bep_model.specs.Tables.{Tables, Device, Folder, FileName}
use Rattle.bep_model.specs.Foreign.{IsKnown}
use Rattle.bep_model.specs.Winner.{IsWinner}
use Rattle.bep_model.specs.Settled.{key_cmp}

-- some candidate is the winner
abbrev pub HasWinner : Tables → Folder → FileName → Type 0
HasWinner t folder name = (one : Candidate) × IsWinner t folder name one

-- the name is known, and no candidate is its winner
pub record IsWithoutWinner (t : Tables) (folder : Folder) (name : FileName) : Type 0 where
  pub known : IsKnown t folder name
  pub unwon : (one : Candidate) → ¬ IsWinner t folder name one

-- the first such name: each known name before it, in the order of certificates, has a winner
pub record IsFirstWithoutWinner (t : Tables) (folder : Folder) (name : FileName) : Type 0 where
  pub without : IsWithoutWinner t folder name
  pub first : (in_folder : Folder) (earlier : FileName) → IsKnown t in_folder earlier →
      key_cmp (in_folder, earlier) (folder, name) ≡ Less → HasWinner t in_folder earlier

-- each own record has the name that it stands at, as in every cut
abbrev pub OwnRecordsAreNamed : Tables → Type 0
OwnRecordsAreNamed t = (device : Device) (folder : Folder) (name : FileName) (entry : Entry) → t.own device folder name ≡ Some entry → entry.name ≡ name
