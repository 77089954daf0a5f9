-- What holds of the words by which records and names are read.
use Rattle.std.specs.Prelude.{◌≡◌, ◌↔◌, ◌≤◌, ℕ, IsTrue, List, map, length}
use Rattle.bep_record.specs.Block.{block_count, block_size_of, CutWhole}
use Rattle.bep_record.specs.FolderName.{IsFolderName}
use Rattle.bep_record.specs.Name.{IsName}
use Rattle.bep_record.specs.Target.{IsTarget}
use Rattle.bep_record.specs.Vector.{IsVersion, most_counters}
use Rattle.bep_json.specs.Lists.{is_version}
use Rattle.bep_json.specs.Records.{blocks_from}
use Rattle.bep_json.specs.Texts.{is_name, is_target, is_folder_name}

-- the tests tell names, targets, folder names and version vectors
abbrev pub NamesAreTold : Type 0
NamesAreTold = (bytes : List ℕ) → IsTrue (is_name bytes) ↔ IsName bytes

abbrev pub TargetsAreTold : Type 0
TargetsAreTold = (bytes : List ℕ) → IsTrue (is_target bytes) ↔ IsTarget bytes

abbrev pub FolderNamesAreTold : Type 0
FolderNamesAreTold = (bytes : List ℕ) → IsTrue (is_folder_name bytes) ↔ IsFolderName bytes

abbrev pub VersionsAreTold : Type 0
VersionsAreTold =
    (pairs : List (ℕ × ℕ)) → IsTrue (is_version pairs) ↔ (IsVersion pairs × (length pairs ≤ most_counters))

-- the blocks of some hashes cut a file whole exactly where they are as many as its size asks
abbrev pub BlocksCutWhole : Type 0
BlocksCutWhole =
    (size : ℕ) (hashes : List (List ℕ)) →
    CutWhole (block_size_of size) size (blocks_from size 0 hashes) ↔ (length hashes ≡ block_count (block_size_of size) size)

-- they have these hashes
abbrev pub BlocksHaveHashes : Type 0
BlocksHaveHashes = (size : ℕ) (hashes : List (List ℕ)) → map (λ b. b.hash) (blocks_from size 0 hashes) ≡ hashes
