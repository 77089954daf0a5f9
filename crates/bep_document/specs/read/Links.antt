-- What documents say of links, and of what is on its way over them (this project's profile; BEP v1, 'Index' and 'Index
-- Update').
use Rattle.std.specs.Prelude.{Bool, [], ◌∷◌, Option, Some, codes}
use Rattle.serde_json.specs.Data.{Data}
use Rattle.bep_index.specs.declared.limits.TheConstants.{MAX_RECORDS, MAX_SEQUENCE}
use Rattle.bep_json.specs.Tree.{due, may, is_object}
use Rattle.bep_json.specs.declared.version.DocVersion.{DocVersion}
use Rattle.bep_json.specs.Reading.{◌>>=◌, read_member, read_member_or}
use Rattle.bep_json.specs.Numbers.{is_whole, is_flag, read_number, read_flag, greatest_id}
use Rattle.bep_json.specs.Texts.{is_text, read_folder_name}
use Rattle.bep_json.specs.Lists.{is_list}
use Rattle.bep_json.specs.Records.{is_record, read_record}
use Rattle.bep_record.specs.declared.limits.TheConstants.{MAX_MESSAGES}
use Rattle.bep_document.specs.read.Few.{read_few}
use Rattle.bep_document.specs.declared.parts.FlightParts.{FlightParts}
use Rattle.bep_document.specs.declared.parts.LinkParts.{LinkParts}

-- an Index or Index Update on its way: each member of its kind, and no others
unfoldable pub is_flight : DocVersion → Data → Bool
is_flight version d = is_object (due (codes "folder") is_text ∷ due (codes "full") is_flag ∷ due (codes "records") (is_list (is_record version)) ∷ []) d

-- the message, of at most 1000 records
unfoldable pub read_flight : DocVersion → Data → Option FlightParts
read_flight version d = do
  folder ← read_member (codes "folder") read_folder_name d
  full ← read_member (codes "full") read_flag d
  records ← read_member (codes "records") (read_few MAX_RECORDS (read_record version)) d
  Some (record { folder = folder; full = full; records = records })

-- a link: each member of its kind, and no others
unfoldable pub is_link : DocVersion → Data → Bool
is_link version d =
    is_object
    (due (codes "a") is_whole ∷ due (codes "b") is_whole ∷ due (codes "up") is_flag ∷ due (codes "epoch") is_whole ∷
    may (codes "to_a") (is_list (is_flight version)) ∷ may (codes "to_b") (is_list (is_flight version)) ∷ [])
    d

-- the link, with at most 1024 messages on their way to either end
unfoldable pub read_link : DocVersion → Data → Option LinkParts
read_link version d = do
  a ← read_member (codes "a") (read_number 1 greatest_id) d
  b ← read_member (codes "b") (read_number 1 greatest_id) d
  up ← read_member (codes "up") read_flag d
  epoch ← read_member (codes "epoch") (read_number 0 MAX_SEQUENCE) d
  to_a ← read_member_or (codes "to_a") (read_few MAX_MESSAGES (read_flight version)) [] d
  to_b ← read_member_or (codes "to_b") (read_few MAX_MESSAGES (read_flight version)) [] d
  Some (record { a = a; b = b; up = up; epoch = epoch; to_a = to_a; to_b = to_b })
