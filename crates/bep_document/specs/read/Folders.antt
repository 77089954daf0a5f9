-- Folders of a cut and rows of a certificate in JSON trees (this project's profile).
use Rattle.std.specs.Prelude.{Bool, [], ◌∷◌, Option, Some, codes}
use Rattle.serde_json.specs.Data.{Data}
use Rattle.bep_json.specs.Tree.{due, is_object}
use Rattle.bep_json.specs.declared.version.DocVersion.{DocVersion}
use Rattle.bep_json.specs.Reading.{◌>>=◌, read_member}
use Rattle.bep_json.specs.Numbers.{is_whole, read_number, greatest_id}
use Rattle.bep_json.specs.Texts.{is_text, read_folder_name}
use Rattle.bep_json.specs.Lists.{is_list, read_list}
use Rattle.bep_json.specs.Records.{is_record, read_record}
use Rattle.bep_document.specs.read.Shares.{is_share, read_share}
use Rattle.bep_document.specs.declared.parts.ShareParts.{ShareParts}
use Rattle.bep_document.specs.declared.parts.FolderParts.{FolderParts}
use Rattle.bep_document.specs.declared.parts.RowParts.{RowParts}

-- a folder, each device of which has this shape: each member of its kind, and no others
abbrev pub is_folder_of : (Data → Bool) → Data → Bool
is_folder_of is_device d = is_object (due (codes "folder") is_text ∷ due (codes "devices") (is_list is_device) ∷ []) d

-- the folder, with the devices that share it, each read so
abbrev pub read_folder_of : (Data → Option ShareParts) → Data → Option FolderParts
read_folder_of read_device d = do
  folder ← read_member (codes "folder") read_folder_name d
  devices ← read_member (codes "devices") (read_list read_device) d
  Some (record { folder = folder; devices = devices })

-- a folder of a cut
unfoldable pub is_folder : DocVersion → Data → Bool
is_folder version d = is_folder_of (is_share version) d

-- the folder of a cut
unfoldable pub read_folder : DocVersion → Data → Option FolderParts
read_folder version d = read_folder_of (read_share version) d

-- a row: each member of its kind, and no others
unfoldable pub is_row : DocVersion → Data → Bool
is_row version d = is_object (due (codes "folder") is_text ∷ due (codes "device") is_whole ∷ due (codes "record") (is_record version) ∷ []) d

-- the row
unfoldable pub read_row : DocVersion → Data → Option RowParts
read_row version d = do
  folder ← read_member (codes "folder") read_folder_name d
  device ← read_member (codes "device") (read_number 1 greatest_id) d
  entry ← read_member (codes "record") (read_record version) d
  Some (record { folder = folder; device = device; entry = entry })
