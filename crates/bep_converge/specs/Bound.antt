-- How often a device takes over a record of a name in a run of orderly peers (this project's profile).
use Rattle.std.specs.Prelude.{◌≡◌, ◌⊎◌, ◌+◌, ℕ, List, [], ◌∷◌, Contains}
use Rattle.bep_record.specs.declared.entry.Entry.{Entry}
use Rattle.bep_model.specs.Tables.{Tables, Device, Folder, FileName}
use Rattle.bep_model.specs.Firm.{AreEqual}
use Rattle.bep_converge.specs.Prevails.{IsAnywhere}
use Rattle.bep_converge.specs.Orderly.{StaysAt, Takes}
use Rattle.bep_converge.specs.Rises.{Supersedes}

-- of the steps from each tables to the next so many take a record of the name over, and the others leave it there
abbrev pub TakesTimes : Device → Folder → FileName → Tables → List Tables → ℕ → Type 0
TakesTimes device folder name old [] times = times ≡ 0
TakesTimes device folder name old (next ∷ more) times =
    (StaysAt old next device folder name × TakesTimes device folder name next more times) ⊎
    (Takes old next device folder name × ((fewer : ℕ) × (times ≡ fewer + 1) × TakesTimes device folder name next more fewer))

-- each record that is known of the name and supersedes the device's own one has the version of one of these
abbrev pub HasAllAbove : Tables → Device → Folder → FileName → List Entry → Type 0
HasAllAbove t device folder name above = (entry : Entry) → IsAnywhere t folder name entry → Supersedes (t.own device folder name) entry →
    (one : Entry) × Contains above one × AreEqual entry.version one.version
