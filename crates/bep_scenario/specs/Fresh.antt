-- The cluster of a scenario before its first step: folders, the devices that share them, and links, of which nothing more
-- is said (this project's profile). It is read as a cut in which nothing is recorded, kept, known or on its way.
use Rattle.std.specs.Prelude.{ℕ, nat_le, ◌&&◌, Bool, false, [], ◌∷◌, Option, Some, None, if◌then◌else◌, codes}
use Rattle.serde_json.specs.Data.{Data}
use Rattle.bep_json.specs.Tree.{due, is_object}
use Rattle.bep_json.specs.Reading.{◌>>=◌, read_member}
use Rattle.bep_json.specs.Numbers.{is_whole, read_number, greatest_id}
use Rattle.bep_json.specs.Texts.{is_text, read_folder_kind}
use Rattle.bep_json.specs.Lists.{read_pair}
use Rattle.bep_document.specs.read.Folders.{is_folder_of, read_folder_of}
use Rattle.bep_document.specs.declared.parts.ShareParts.{ShareParts}
use Rattle.bep_document.specs.declared.parts.FolderParts.{FolderParts}
use Rattle.bep_document.specs.declared.parts.LinkParts.{LinkParts}

-- a device of a folder: each member of its kind, and no others
unfoldable pub is_fresh_share : Data → Bool
is_fresh_share d = is_object (due (codes "device") is_whole ∷ due (codes "kind") is_text ∷ due (codes "index_id") is_whole ∷ []) d

-- the device, with nothing in its index and its store
unfoldable pub read_fresh_share : Data → Option ShareParts
read_fresh_share d = do
  device ← read_member (codes "device") (read_number 1 greatest_id) d
  kind ← read_member (codes "kind") read_folder_kind d
  index_id ← read_member (codes "index_id") (read_number 1 greatest_id) d
  Some (record {
    device = device;
    kind = kind;
    index_id = index_id;
    max = 0;
    own = [];
    store = [];
    views = [];
    pulls = [];
  })

-- a folder
unfoldable pub is_fresh_folder : Data → Bool
is_fresh_folder d = is_folder_of is_fresh_share d

-- the folder, with the devices that share it
unfoldable pub read_fresh_folder : Data → Option FolderParts
read_fresh_folder d = read_folder_of read_fresh_share d

-- a link that never was up
abbrev pub fresh_link : ℕ × ℕ → LinkParts
fresh_link ends = record { a = ends.0; b = ends.1; up = false; epoch = 0; to_a = []; to_b = [] }

-- the link, if both numbers are those of devices
abbrev pub if_devices : ℕ × ℕ → Option LinkParts
if_devices ends = if nat_le 1 ends.0 && nat_le 1 ends.1 then Some (fresh_link ends) else None

-- a link, from a list of its two devices
unfoldable pub read_fresh_link : Data → Option LinkParts
read_fresh_link d = read_pair d >>= if_devices
