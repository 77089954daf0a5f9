-- Check documents as JSON trees (this project's profile).
use Rattle.std.specs.Prelude.{ℕ, option_and_then, Bool, List, [], ◌∷◌, Option, Some, None, if◌then◌else◌, codes}
use Rattle.serde_json.specs.Data.{Data}
use Rattle.serde_json.specs.Find.{as_number, as_u64}
use Rattle.bep_json.specs.Tree.{due, may, is_object}
use Rattle.bep_json.specs.declared.version.DocVersion.{DocVersion}
use Rattle.bep_json.specs.Reading.{◌>>=◌, read_member, read_member_or}
use Rattle.bep_json.specs.Numbers.{is_whole}
use Rattle.bep_json.specs.Version.{version_of}
use Rattle.bep_json.specs.Lists.{is_list, read_list}
use Rattle.bep_document.specs.read.Few.{read_few}
use Rattle.bep_document.specs.read.Devices.{has_few_devices}
use Rattle.bep_document.specs.read.Folders.{is_folder, read_folder, is_row, read_row}
use Rattle.bep_document.specs.read.Links.{is_link, read_link}
use Rattle.bep_record.specs.declared.limits.TheConstants.{MAX_FOLDERS}
use Rattle.bep_document.specs.declared.parts.FolderParts.{FolderParts}
use Rattle.bep_document.specs.declared.parts.LinkParts.{LinkParts}
use Rattle.bep_document.specs.declared.parts.RowParts.{RowParts}
use Rattle.bep_document.specs.declared.parts.CheckParts.{CheckParts}

-- a cut: each member of its kind, and no others
unfoldable pub is_cut : DocVersion → Data → Bool
is_cut version d = is_object (due (codes "folders") (is_list (is_folder version)) ∷ may (codes "links") (is_list (is_link version)) ∷ []) d

-- the folders, if not too many different devices share them
abbrev pub if_few_devices : List FolderParts → Option (List FolderParts)
if_few_devices folders = if has_few_devices folders then Some folders else None

-- the folders of a cut
abbrev pub read_folders : DocVersion → Data → Option (List FolderParts)
read_folders version d = do
  folders ← read_member (codes "folders") (read_few MAX_FOLDERS (read_folder version)) d
  if_few_devices folders

-- the folders and the links of a cut
unfoldable pub read_cut : DocVersion → Data → Option (List FolderParts × List LinkParts)
read_cut version d = do
  folders ← read_folders version d
  links ← read_member_or (codes "links") (read_list (read_link version)) [] d
  Some (folders, links)

-- the version with this number
abbrev pub read_doc_version : Data → Option DocVersion
read_doc_version d = option_and_then as_u64 (as_number d) >>= version_of

-- the document's version
abbrev pub doc_version : Data → Option DocVersion
doc_version d = read_member (codes "version") read_doc_version d

-- the members of a check document
abbrev pub check_members : DocVersion → List (List ℕ × (Data → Bool))
check_members version =
    due (codes "version") is_whole ∷ due (codes "cut") (is_cut version) ∷
    due (codes "certificate") (is_list (is_row version)) ∷ []

-- a check document: each member of its kind, and no others
unfoldable pub is_check : DocVersion → Data → Bool
is_check version d = is_object (check_members version) d

-- a document of this version, with a cut and rows, where each could be read
abbrev pub with_rows : DocVersion → Option (List FolderParts × List LinkParts) → Option (List RowParts) → Option CheckParts
with_rows version read_cut read_rows = do
  cut ← read_cut
  certificate ← read_rows
  Some (record { version = version; folders = cut.0; links = cut.1; certificate = certificate })

-- the folders, the links and the rows
unfoldable pub read_check_parts : DocVersion → Data → Option CheckParts
read_check_parts version d = with_rows version (read_member (codes "cut") (read_cut version) d) (read_member (codes "certificate") (read_list (read_row version)) d)
