-- What all reasons together ask of a device beside a row (this project's profile).
use Rattle.std.specs.Prelude.{◌≡◌, List, Option, Some, None}
use Rattle.bep_record.specs.declared.entry.Entry.{Entry}
use Rattle.bep_record.specs.declared.node.NodeParts.{NodeParts}
use Rattle.bep_record.specs.Content.{content_of}
use Rattle.bep_record.specs.Node.{IsClean}
use Rattle.bep_model.specs.declared.row.Row.{Row}
use Rattle.bep_model.specs.Settled.{content_of_node}
use Rattle.bep_model.specs.Tables.{Device}
use Rattle.bep_tables.specs.declared.table.entry.Source.TheVariants.{View, Flight, Pull}
use Rattle.bep_tables.specs.Listed.{Holding, Record, Node, Listed}
use Rattle.bep_audit.specs.Candidates.{own_among, picked_among}
use Rattle.bep_audit.specs.Group.{PassesFrom, GroupPasses}
use Rattle.bep_audit.specs.Share.{AsksRecord, AsksContent, AsksValid}

-- what is held, if it is a node
abbrev pub node_held : Holding → Option NodeParts
node_held (Record source entry) = None
node_held (Node node) = Some node

-- the device's node among these entries
abbrev pub node_among : Device → List Listed → Option NodeParts
node_among = picked_among node_held

-- what they ask of its own record and its node
unfoldable pub AsksAllHere : Option Entry → Option NodeParts → Entry → Type 0
AsksAllHere own stored winner =
    AsksRecord own winner
    × AsksContent own winner
    × AsksValid own
    × (content_of_node stored ≡ content_of winner)
    × IsClean stored own

-- what they ask of its foreign records, of which these are the entries of the row's name
unfoldable pub AsksAllElsewhere : Row → List Listed → Device → Option Entry → Type 0
AsksAllElsewhere row group device own =
    GroupPasses View device row own group
    × GroupPasses Flight device row own group
    × GroupPasses Pull device row own group

-- what they ask of one of these entries
unfoldable pub PassesElsewhere : Device → Row → Option Entry → Listed → Type 0
PassesElsewhere device row own one =
    PassesFrom View device row own one
    × PassesFrom Flight device row own one
    × PassesFrom Pull device row own one

-- what they ask of it, of which these are the entries of the row's name
unfoldable pub AsksAll : Row → List Listed → Device → Type 0
AsksAll row group device =
    AsksAllHere (own_among device group) (node_among device group) row.entry
    × AsksAllElsewhere row group device (own_among device group)
