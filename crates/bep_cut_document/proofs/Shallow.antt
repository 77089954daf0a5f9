-- A check document nests no deeper than a reader of JSON lets it.
use Rattle.std.proofs.Common.{◌≤◌, ℕ, suc, List, [], ◌∷◌, map, arith}
use Rattle.std.proofs.Math.Nat.{max-le}
use Rattle.std.specs.FinMap.{entries, values}
use Rattle.serde_json.specs.Data.{Data, depth, items_depth}
use Rattle.serde_json.specs.Read.{max_depth}
use Rattle.serde_json.specs.View.{items_of}
use Rattle.bep_map.specs.NameMap.{ByName}
use Rattle.bep_record.specs.declared.entry.Entry.{Entry}
use Rattle.bep_record.specs.declared.node.NodeParts.{NodeParts}
use Rattle.bep_json.specs.Written.{list_of, counter_written, hex_written, record_written, node_written}
use Rattle.bep_model.specs.declared.flight.Flight.{Flight}
use Rattle.bep_model.specs.declared.row.Row.{Row}
use Rattle.bep_tables.specs.declared.share.Share.{Share}
use Rattle.bep_tables.specs.declared.share.PeerView.{PeerView}
use Rattle.bep_tables.specs.declared.share.SharedFolder.{SharedFolder}
use Rattle.bep_tables.specs.declared.link.LinkState.{LinkState}
use Rattle.bep_tables.specs.declared.cut.CutParts.{CutParts}
use Rattle.bep_json.specs.declared.version.DocVersion.{DocVersion}
use Rattle.bep_cut_document.specs.Trees.{records_tree, nodes_tree, view_tree, share_tree, folder_tree, flight_tree, link_tree, cut_tree, row_tree, check_tree}

-- the tree nests so deep at most
abbrev IsShallow : ℕ → Data → Type 0
IsShallow most tree = depth tree ≤ most

-- a number or a text doesn't nest
flat : (k : ℕ) → 0 ≤ k
flat k = omega arith

-- what nests less deep
within : {d : ℕ} (j k : ℕ) → j ≤ k → d ≤ j → d ≤ k
within j k more less = omega (arith, more, less)

-- ---- parts
deeper : {d : ℕ} (k : ℕ) → d ≤ k → suc d ≤ suc k
deeper k less = omega (arith, less)

items_shallow : {A : Type 0} (k : ℕ) (tree : A → Data) → ((x : A) → IsShallow k (tree x)) → (xs : List A) → items_depth (items_of (map tree xs)) ≤ k
items_shallow k tree each [] = flat k
items_shallow k tree each (x ∷ more) = max-le (each x) (items_shallow k tree each more)

list_shallow : {A : Type 0} (k : ℕ) (tree : A → Data) → ((x : A) → IsShallow k (tree x)) → (xs : List A) → IsShallow (suc k) (list_of (map tree xs))
list_shallow k tree each xs = deeper k (items_shallow k tree each xs)

counter_shallow : (counter : ℕ × ℕ) → IsShallow 1 (counter_written counter)
counter_shallow counter = deeper 0 (max-le (flat 0) (max-le (flat 0) (flat 0)))

record_shallow : (entry : Entry) → IsShallow 3 (record_written entry)
unfolding record_written
record_shallow entry =
    deeper 2
    (max-le (flat 2) (max-le (list_shallow 1 hex_written (λ hash. flat 1) (map (λ b. b.hash) entry.blocks))
    (max-le (flat 2) (max-le (flat 2) (max-le (flat 2) (max-le (flat 2) (max-le (flat 2) (max-le (flat 2) (max-le (flat 2) (max-le (flat 2) (max-le (flat 2) (max-le (flat 2)
    (max-le (list_shallow 1 counter_written counter_shallow entry.version) (flat 2))))))))))))))

node_shallow : (held : List ℕ × NodeParts) → IsShallow 3 (node_written held.0 held.1)
unfolding node_written
node_shallow held =
    deeper 2 (max-le (flat 2) (max-le (flat 2) (max-le (flat 2) (max-le (flat 2) (max-le (flat 2) (max-le (flat 2) (flat 2)))))))

records_shallow : (records : ByName Entry) → IsShallow 4 (records_tree records)
records_shallow records = list_shallow 3 record_written record_shallow (values records)

nodes_shallow : (nodes : ByName NodeParts) → IsShallow 4 (nodes_tree nodes)
nodes_shallow nodes = list_shallow 3 (λ held. node_written held.0 held.1) node_shallow (entries nodes)

-- ---- a cut
view_shallow : (view : PeerView) → IsShallow 5 (view_tree view)
unfolding view_tree
view_shallow view = deeper 4 (max-le (flat 4) (max-le (flat 4) (max-le (flat 4) (max-le (records_shallow view.records) (flat 4)))))

share_shallow : (share : Share) → IsShallow 7 (share_tree share)
unfolding share_tree
share_shallow share =
    deeper 6
    (max-le (flat 6) (max-le (flat 6) (max-le (flat 6) (max-le (flat 6)
    (max-le (within 4 6 (omega arith) (records_shallow share.own))
    (max-le (within 4 6 (omega arith) (records_shallow share.pulls))
    (max-le (within 4 6 (omega arith) (nodes_shallow share.store))
    (max-le (list_shallow 5 view_tree view_shallow share.views) (flat 6)))))))))

folder_shallow : (shared : SharedFolder) → IsShallow 9 (folder_tree shared)
unfolding folder_tree
folder_shallow shared = deeper 8 (max-le (list_shallow 7 share_tree share_shallow shared.shares) (max-le (flat 8) (flat 8)))

flight_shallow : (flight : Flight) → IsShallow 5 (flight_tree flight)
unfolding flight_tree
flight_shallow flight = deeper 4 (max-le (flat 4) (max-le (flat 4) (max-le (list_shallow 3 record_written record_shallow flight.records) (flat 4))))

link_shallow : (link : LinkState) → IsShallow 7 (link_tree link)
unfolding link_tree
link_shallow link =
    deeper 6
    (max-le (flat 6) (max-le (flat 6) (max-le (flat 6)
    (max-le (list_shallow 5 flight_tree flight_shallow link.to_a)
    (max-le (list_shallow 5 flight_tree flight_shallow link.to_b) (max-le (flat 6) (flat 6)))))))

cut_shallow : (cut : CutParts) → IsShallow 11 (cut_tree cut)
unfolding cut_tree
cut_shallow cut =
    deeper 10
    (max-le (list_shallow 9 folder_tree folder_shallow cut.folders)
    (max-le (within 8 10 (omega arith) (list_shallow 7 link_tree link_shallow cut.links)) (flat 10)))

-- ---- the document
row_shallow : (row : Row) → IsShallow 4 (row_tree row)
unfolding row_tree
row_shallow row = deeper 3 (max-le (flat 3) (max-le (flat 3) (max-le (record_shallow row.entry) (flat 3))))

pub check_shallow : (version : DocVersion) (cut : CutParts) (rows : List Row) → IsShallow max_depth (check_tree version cut rows)
unfolding check_tree
check_shallow version cut rows =
    within 12 max_depth (omega arith)
    (deeper 11
    (max-le (within 5 11 (omega arith) (list_shallow 4 row_tree row_shallow rows))
    (max-le (cut_shallow cut) (max-le (flat 11) (flat 11)))))

-- ---- the cut alone
pub cut_alone_shallow : (cut : CutParts) → IsShallow max_depth (cut_tree cut)
cut_alone_shallow cut = within 11 max_depth (omega arith) (cut_shallow cut)
