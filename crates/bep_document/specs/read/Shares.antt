-- What documents say of a device that shares a folder (this project's profile).
use Rattle.std.specs.Prelude.{Bool, [], ◌∷◌, Option, Some, codes}
use Rattle.serde_json.specs.Data.{Data}
use Rattle.bep_index.specs.declared.limits.TheConstants.{MAX_NAMES, MAX_SEQUENCE}
use Rattle.bep_json.specs.Tree.{due, may, is_object}
use Rattle.bep_json.specs.declared.version.DocVersion.{DocVersion}
use Rattle.bep_json.specs.Reading.{◌>>=◌, read_member, read_member_or}
use Rattle.bep_json.specs.Numbers.{is_whole, read_number, greatest_id}
use Rattle.bep_json.specs.Texts.{is_text, read_folder_kind}
use Rattle.bep_json.specs.Lists.{is_list, read_list}
use Rattle.bep_json.specs.Records.{is_record, read_record}
use Rattle.bep_json.specs.Nodes.{is_node, read_node}
use Rattle.bep_document.specs.read.Few.{read_few}
use Rattle.bep_document.specs.read.Views.{is_view, read_view}
use Rattle.bep_record.specs.declared.limits.TheConstants.{MAX_PULLS}
use Rattle.bep_document.specs.declared.parts.ShareParts.{ShareParts}

-- a device of a folder: each member of its kind, and no others
unfoldable pub is_share : DocVersion → Data → Bool
is_share version d =
    is_object
    (due (codes "device") is_whole ∷ due (codes "kind") is_text ∷ due (codes "index_id") is_whole ∷
    due (codes "max") is_whole ∷ may (codes "own") (is_list (is_record version)) ∷ may (codes "store") (is_list is_node) ∷
    may (codes "views") (is_list (is_view version)) ∷ may (codes "pulls") (is_list (is_record version)) ∷ [])
    d

-- the device, with its records and nodes, its views and what it pulls
unfoldable pub read_share : DocVersion → Data → Option ShareParts
read_share version d = do
  device ← read_member (codes "device") (read_number 1 greatest_id) d
  kind ← read_member (codes "kind") read_folder_kind d
  index_id ← read_member (codes "index_id") (read_number 1 greatest_id) d
  max ← read_member (codes "max") (read_number 0 MAX_SEQUENCE) d
  own ← read_member_or (codes "own") (read_few MAX_NAMES (read_record version)) [] d
  store ← read_member_or (codes "store") (read_list (read_node version)) [] d
  views ← read_member_or (codes "views") (read_list (read_view version)) [] d
  pulls ← read_member_or (codes "pulls") (read_few MAX_PULLS (read_record version)) [] d
  Some (record {
    device = device;
    kind = kind;
    index_id = index_id;
    max = max;
    own = own;
    store = store;
    views = views;
    pulls = pulls;
  })
