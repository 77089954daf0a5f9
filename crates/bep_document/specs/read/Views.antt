-- What documents say of what a device knows of another's index (this project's profile; BEP v1, 'Index').
use Rattle.std.specs.Prelude.{Bool, [], ◌∷◌, Option, Some, codes}
use Rattle.serde_json.specs.Data.{Data}
use Rattle.bep_index.specs.declared.limits.TheConstants.{MAX_NAMES, MAX_SEQUENCE}
use Rattle.bep_json.specs.Tree.{due, is_object}
use Rattle.bep_json.specs.declared.version.DocVersion.{DocVersion}
use Rattle.bep_json.specs.Reading.{◌>>=◌, read_member}
use Rattle.bep_json.specs.Numbers.{is_whole, read_number, greatest_id}
use Rattle.bep_json.specs.Lists.{is_list}
use Rattle.bep_json.specs.Records.{is_record, read_record}
use Rattle.bep_document.specs.read.Few.{read_few}
use Rattle.bep_document.specs.declared.parts.ViewParts.{ViewParts}

-- a view: each member of its kind, and no others
unfoldable pub is_view : DocVersion → Data → Bool
is_view version d =
    is_object
    (due (codes "of") is_whole ∷ due (codes "index_id") is_whole ∷ due (codes "max") is_whole ∷
    due (codes "records") (is_list (is_record version)) ∷ [])
    d

-- the view, of at most 4096 records
unfoldable pub read_view : DocVersion → Data → Option ViewParts
read_view version d = do
  of ← read_member (codes "of") (read_number 1 greatest_id) d
  index_id ← read_member (codes "index_id") (read_number 0 greatest_id) d
  max ← read_member (codes "max") (read_number 0 MAX_SEQUENCE) d
  records ← read_member (codes "records") (read_few MAX_NAMES (read_record version)) d
  Some (record { of = of; index_id = index_id; max = max; records = records })
