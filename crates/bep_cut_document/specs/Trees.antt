-- What is written of a cut and of a certificate: every member, also those that have a default, in the order of their
-- names; lists rise as in the cut (this project's profile).
use Rattle.std.specs.Prelude.{ℕ, List, map, codes}
use Rattle.std.specs.FinMap.{entries, values}
use Rattle.serde_json.specs.Data.{Data, boolean, string, object, no_members, member}
use Rattle.serde_json.specs.Written.{compact_text}
use Rattle.bep_map.specs.NameMap.{ByName}
use Rattle.bep_record.specs.declared.entry.Entry.{Entry}
use Rattle.bep_record.specs.declared.folder_kind.FolderKind.{FolderKind}
use Rattle.bep_record.specs.declared.folder_kind.FolderKind.TheVariants.{SendReceive, SendOnly, ReceiveOnly}
use Rattle.bep_record.specs.declared.node.NodeParts.{NodeParts}
use Rattle.bep_json.specs.declared.version.DocVersion.{DocVersion}
use Rattle.bep_json.specs.Version.{number_of}
use Rattle.bep_json.specs.Written.{whole, list_of, record_written, node_written}
use Rattle.bep_model.specs.declared.flight.Flight.{Flight}
use Rattle.bep_model.specs.declared.row.Row.{Row}
use Rattle.bep_tables.specs.declared.share.Share.{Share}
use Rattle.bep_tables.specs.declared.share.PeerView.{PeerView}
use Rattle.bep_tables.specs.declared.share.SharedFolder.{SharedFolder}
use Rattle.bep_tables.specs.declared.link.LinkState.{LinkState}
use Rattle.bep_tables.specs.declared.cut.CutParts.{CutParts}

-- the name of a kind of folder (Syncthing, 'Folder Types')
abbrev pub name_of_kind : FolderKind → List ℕ
name_of_kind SendReceive = codes "send-receive"
name_of_kind SendOnly = codes "send-only"
name_of_kind ReceiveOnly = codes "receive-only"

-- the records of a table, names rising
abbrev pub records_tree : ByName Entry → Data
records_tree records = list_of (map record_written (values records))

-- the nodes of a table, names rising
abbrev pub nodes_tree : ByName NodeParts → Data
nodes_tree nodes = list_of (map (λ held. node_written held.0 held.1) (entries nodes))

-- what is known of another device's index
unfoldable pub view_tree : PeerView → Data
view_tree view =
    object
    (member (codes "index_id") (whole view.index_id)
    (member (codes "max") (whole view.max_sequence)
    (member (codes "of") (whole view.of)
    (member (codes "records") (records_tree view.records) no_members))))

-- a device that shares a folder
unfoldable pub share_tree : Share → Data
share_tree share =
    object
    (member (codes "device") (whole share.device)
    (member (codes "index_id") (whole share.index_id)
    (member (codes "kind") (string (name_of_kind share.kind))
    (member (codes "max") (whole share.max_sequence)
    (member (codes "own") (records_tree share.own)
    (member (codes "pulls") (records_tree share.pulls)
    (member (codes "store") (nodes_tree share.store)
    (member (codes "views") (list_of (map view_tree share.views)) no_members))))))))

-- a folder
unfoldable pub folder_tree : SharedFolder → Data
folder_tree shared =
    object
    (member (codes "devices") (list_of (map share_tree shared.shares))
    (member (codes "folder") (string shared.folder) no_members))

-- a message on its way
unfoldable pub flight_tree : Flight → Data
flight_tree flight =
    object
    (member (codes "folder") (string flight.folder)
    (member (codes "full") (boolean flight.full)
    (member (codes "records") (list_of (map record_written flight.records)) no_members)))

-- a link
unfoldable pub link_tree : LinkState → Data
link_tree link =
    object
    (member (codes "a") (whole link.a)
    (member (codes "b") (whole link.b)
    (member (codes "epoch") (whole link.epoch)
    (member (codes "to_a") (list_of (map flight_tree link.to_a))
    (member (codes "to_b") (list_of (map flight_tree link.to_b))
    (member (codes "up") (boolean link.up) no_members))))))

-- a cut
unfoldable pub cut_tree : CutParts → Data
cut_tree cut =
    object
    (member (codes "folders") (list_of (map folder_tree cut.folders))
    (member (codes "links") (list_of (map link_tree cut.links)) no_members))

-- a row of a certificate
unfoldable pub row_tree : Row → Data
row_tree row =
    object
    (member (codes "device") (whole row.device)
    (member (codes "folder") (string row.folder)
    (member (codes "record") (record_written row.entry) no_members)))

-- a check document of this version
unfoldable pub check_tree : DocVersion → CutParts → List Row → Data
check_tree version cut rows =
    object
    (member (codes "certificate") (list_of (map row_tree rows))
    (member (codes "cut") (cut_tree cut)
    (member (codes "version") (whole (number_of version)) no_members)))

-- its text: JSON without spaces
unfoldable pub check_document_text : DocVersion → CutParts → List Row → List ℕ
check_document_text version cut rows = compact_text (check_tree version cut rows)
