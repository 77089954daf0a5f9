-- What is written of views, devices, folders, messages and links is read again.
use Rattle.std.proofs.Common.{◌≡◌, ◌≤◌, ℕ, leb, Bool, true, List, [], ◌∷◌, map, length, Option, Some, if◌then◌else◌, refl, ap, ◌∙◌, arith}
use Rattle.std.specs.FinMap.{entries, values}
use Rattle.std.specs.List.{AllByRecursion}
use Rattle.std.proofs.lemmas.Bool.Decides.{nat_tests}
use Rattle.std.proofs.lemmas.List.{length-map}
use Rattle.serde_json.specs.Data.{Data, string}
use Rattle.bep_record.specs.FolderName.{IsFolderName}
use Rattle.bep_record.specs.declared.entry.Entry.{Entry}
use Rattle.bep_record.specs.declared.folder_kind.FolderKind.{FolderKind}
use Rattle.bep_record.specs.declared.folder_kind.FolderKind.TheVariants.{SendReceive, SendOnly, ReceiveOnly}
use Rattle.bep_record.specs.declared.limits.TheConstants.{MAX_PULLS, MAX_MESSAGES}
use Rattle.bep_index.specs.declared.limits.TheConstants.{MAX_NAMES, MAX_RECORDS, MAX_SEQUENCE}
use Rattle.bep_json.specs.Laws.{FolderNamesAreTold}
use Rattle.bep_json.specs.Lists.{is_list, read_list}
use Rattle.bep_json.specs.Numbers.{is_whole, read_number, greatest_id}
use Rattle.bep_json.specs.Texts.{is_text, read_folder_name, read_folder_kind}
use Rattle.bep_json.specs.Records.{is_record, read_record}
use Rattle.bep_json.specs.Nodes.{is_node, read_node}
use Rattle.bep_json.specs.Says.{Says, both_are, then_read, number_says, list_says}
use Rattle.bep_json.specs.Written.{whole, list_of, record_written, node_written}
use Rattle.bep_document.specs.read.Few.{if_few, read_few}
use Rattle.bep_document.specs.read.Folders.{is_folder, read_folder, is_row, read_row}
use Rattle.bep_document.specs.read.Links.{is_flight, read_flight, is_link, read_link}
use Rattle.bep_document.specs.read.Shares.{is_share, read_share}
use Rattle.bep_document.specs.read.Views.{is_view, read_view}
use Rattle.bep_model.specs.declared.flight.Flight.{Flight}
use Rattle.bep_model.specs.declared.row.Row.{Row}
use Rattle.bep_tables.specs.declared.share.Share.{Share}
use Rattle.bep_tables.specs.declared.share.PeerView.{PeerView}
use Rattle.bep_tables.specs.declared.share.SharedFolder.{SharedFolder}
use Rattle.bep_tables.specs.declared.link.LinkState.{LinkState}
use Rattle.bep_cut_document.specs.Trees.{name_of_kind, view_tree, share_tree, folder_tree, flight_tree, link_tree, row_tree}
use Rattle.bep_json.specs.declared.version.DocVersion.{DocVersion}
use Rattle.bep_json.specs.Version.{most_file_bytes}
use Rattle.bep_record.specs.declared.node.NodeParts.{NodeParts}
use Rattle.bep_cut_document.specs.Room.{AreShort, IsViewShort, IsShareShort, IsFlightShort}
use Rattle.bep_cut_document.specs.inner.Told.{node_parts, view_parts, share_parts, flight_parts, AreInRange, IsViewInRange, IsShareInRange, IsFlightInRange, IsRecordTold, IsNodeTold, IsViewTold, IsShareTold, IsFolderTold, IsFlightTold, IsLinkTold, IsRowTold}

where_true : {A : Type 0} {b : Bool} (x y : A) → b ≡ true → (if b then x else y) ≡ x
where_true x y e = ap (λ c. if c then x else y) e

-- what each is that is told, where it is short enough for a version, and in range
pub each_told : {A : Type 0} (S : DocVersion → A → Type 0) (P : A → Type 0) (Q : DocVersion → A → Type 0) (version : DocVersion) (xs : List A) →
    AllByRecursion (λ x. (v : DocVersion) → S v x → P x → Q v x) xs → AllByRecursion (S version) xs → AllByRecursion P xs → AllByRecursion (Q version) xs
each_told S P Q version [] told short range = tt
each_told S P Q version (x ∷ more) told short range = (told.0 version short.0 range.0, each_told S P Q version more told.1 short.1 range.1)

-- the same of what has no range
each_node_told : {A : Type 0} (S Q : DocVersion → A → Type 0) (version : DocVersion) (xs : List A) →
    AllByRecursion (λ x. (v : DocVersion) → S v x → Q v x) xs → AllByRecursion (S version) xs → AllByRecursion (Q version) xs
each_node_told S Q version [] told short = tt
each_node_told S Q version (x ∷ more) told short = (told.0 version short.0, each_node_told S Q version more told.1 short.1)

map_same : {A : Type 0} (xs : List A) → map (λ x. x) xs ≡ xs
map_same [] = refl
map_same (x ∷ xs) = ap (λ ys. x ∷ ys) (map_same xs)

-- a short list
pub few_read : {T : Type 0} (reads : Data → Option T) (most : ℕ) (d : Data) (xs : List T) → read_list reads d ≡ Some xs → length xs ≤ most → read_few most reads d ≡ Some xs
few_read reads most d xs read few =
    let told : leb (length xs) most ≡ true = grind (arith, nat_tests) in
    then_read (if_few most) read (where_true _ _ told)

records_say : (version : DocVersion) (records : List Entry) → AllByRecursion IsRecordTold records → AreShort version records → AreInRange records → Says (is_list (is_record version)) (read_list (read_record version)) records (list_of (map record_written records))
records_say version records told short range =
    let all = list_says (is_record version) (read_record version) (λ e. e) record_written records
    (each_told (λ (v : DocVersion) (e : Entry). e.size ≤ most_file_bytes v) (λ (e : Entry). e.sequence ≤ MAX_SEQUENCE) (λ (v : DocVersion) (e : Entry). Says (is_record v) (read_record v) e (record_written e)) version records told short range) in
    (all.0, all.1 ∙ ap Some (map_same records))

kind_read : (kind : FolderKind) → read_folder_kind (string (name_of_kind kind)) ≡ Some kind
kind_read SendReceive = refl
kind_read SendOnly = refl
kind_read ReceiveOnly = refl

pub folder_name_says : FolderNamesAreTold → (name : List ℕ) → IsFolderName name → Says is_text read_folder_name name (string name)
unfolding read_folder_name
folder_name_says law name is = (refl, where_true _ _ ((law name).1 is))

-- ---- views
pub view_says : (view : PeerView) → Says is_whole (read_number 1 greatest_id) view.of (whole view.of) → Says is_whole (read_number 0 greatest_id) view.index_id (whole view.index_id) → AllByRecursion IsRecordTold (values view.records) → IsViewTold view
unfolding is_view read_view view_tree
view_says view of id told = λ version short range.
    let records = records_say version (values view.records) told short range.sequences in (
      both_are refl (both_are refl (both_are refl (both_are refl records.0))),
      then_read _ of.1
          (then_read _ id.1
          (then_read _ (number_says 0 MAX_SEQUENCE view.max_sequence (omega arith) range.within).1
          (then_read _ (few_read (read_record version) MAX_NAMES (list_of (map record_written (values view.records))) (values view.records) records.1 range.few) refl))),
    )

-- ---- devices
share_shaped : (version : DocVersion) (share : Share) → is_list (is_record version) (list_of (map record_written (values share.own))) ≡ true → is_list is_node (list_of (map (λ held. node_written held.0 held.1) (entries share.store))) ≡ true → is_list (is_view version) (list_of (map view_tree share.views)) ≡ true → is_list (is_record version) (list_of (map record_written (values share.pulls))) ≡ true → is_share version (share_tree share) ≡ true
unfolding is_share share_tree
share_shaped version share own store views pulls =
    both_are refl (both_are refl (both_are refl (both_are refl (both_are refl (both_are own (both_are store (both_are views pulls)))))))

pub share_says : (share : Share) → Says is_whole (read_number 1 greatest_id) share.device (whole share.device) → Says is_whole (read_number 1 greatest_id) share.index_id (whole share.index_id) → AllByRecursion IsRecordTold (values share.own) → AllByRecursion IsNodeTold (entries share.store) → AllByRecursion IsViewTold share.views → AllByRecursion IsRecordTold (values share.pulls) → IsShareTold share
unfolding read_share share_tree
share_says share device id own_told store_told views_told pulls_told = λ version short range.
    let own = records_say version (values share.own) own_told short.own range.own.sequences in
    let store = list_says is_node (read_node version) node_parts (λ held. node_written held.0 held.1) (entries share.store)
    (each_node_told (λ (v : DocVersion) (held : List ℕ × NodeParts). length held.1.bytes ≤ most_file_bytes v) (λ (v : DocVersion) (held : List ℕ × NodeParts). Says is_node (read_node v) (node_parts held) (node_written held.0 held.1)) version (entries share.store) store_told short.store) in
    let views = list_says (is_view version) (read_view version) view_parts view_tree share.views
    (each_told IsViewShort IsViewInRange (λ (v : DocVersion) (one : PeerView). Says (is_view v) (read_view v) (view_parts one) (view_tree one)) version share.views views_told short.views range.views) in
    let pulls = records_say version (values share.pulls) pulls_told short.pulls range.pulls in (
      share_shaped version share own.0 store.0 views.0 pulls.0,
      then_read _ device.1
          (then_read _ (kind_read share.kind)
          (then_read _ id.1
          (then_read _ (number_says 0 MAX_SEQUENCE share.max_sequence (omega arith) range.own.within).1
          (then_read _ (few_read (read_record version) MAX_NAMES (list_of (map record_written (values share.own))) (values share.own) own.1 range.own.few)
          (then_read _ store.1
          (then_read _ views.1
          (then_read _ (few_read (read_record version) MAX_PULLS (list_of (map record_written (values share.pulls))) (values share.pulls) pulls.1 range.few_pulls) refl))))))),
    )

-- ---- folders
pub folder_says : (shared : SharedFolder) → Says is_text read_folder_name shared.folder (string shared.folder) → AllByRecursion IsShareTold shared.shares → IsFolderTold shared
unfolding is_folder read_folder folder_tree
folder_says shared name told = λ version short range.
    let devices = list_says (is_share version) (read_share version) share_parts share_tree shared.shares
    (each_told IsShareShort IsShareInRange (λ (v : DocVersion) (s : Share). Says (is_share v) (read_share v) (share_parts s) (share_tree s)) version shared.shares told short range) in (
      both_are refl (both_are refl devices.0),
      then_read _ name.1 (then_read _ devices.1 refl),
    )

-- ---- messages and links
pub flight_says : (flight : Flight) → Says is_text read_folder_name flight.folder (string flight.folder) → AllByRecursion IsRecordTold flight.records → IsFlightTold flight
unfolding is_flight read_flight flight_tree
flight_says flight name told = λ version short range.
    let records = records_say version flight.records told short range.sequences in (
      both_are refl (both_are refl (both_are refl records.0)),
      then_read _ name.1 (then_read _ (few_read (read_record version) MAX_RECORDS (list_of (map record_written flight.records)) flight.records records.1 range.few) refl),
    )

flights_say : (version : DocVersion) (flights : List Flight) → AllByRecursion IsFlightTold flights → AllByRecursion (IsFlightShort version) flights → AllByRecursion IsFlightInRange flights → Says (is_list (is_flight version)) (read_list (read_flight version)) (map flight_parts flights) (list_of (map flight_tree flights))
flights_say version flights told short range =
    list_says (is_flight version) (read_flight version) flight_parts flight_tree flights
    (each_told IsFlightShort IsFlightInRange (λ (v : DocVersion) (f : Flight). Says (is_flight v) (read_flight v) (flight_parts f) (flight_tree f)) version flights told short range)

few_parts : (flights : List Flight) → length flights ≤ MAX_MESSAGES → length (map flight_parts flights) ≤ MAX_MESSAGES
few_parts flights few = let same = length-map flights flight_parts in omega arith

pub link_says : (link : LinkState) → Says is_whole (read_number 1 greatest_id) link.a (whole link.a) → Says is_whole (read_number 1 greatest_id) link.b (whole link.b) → AllByRecursion IsFlightTold link.to_a → AllByRecursion IsFlightTold link.to_b → IsLinkTold link
unfolding is_link read_link link_tree
link_says link a b to_a_told to_b_told = λ version short range.
    let to_a = flights_say version link.to_a to_a_told short.to_a range.to_a in
    let to_b = flights_say version link.to_b to_b_told short.to_b range.to_b in (
      both_are refl (both_are refl (both_are refl (both_are refl (both_are refl (both_are to_a.0 to_b.0))))),
      then_read _ a.1
          (then_read _ b.1
          (then_read _ (number_says 0 MAX_SEQUENCE link.epoch (omega arith) range.epoch).1
          (then_read _ (few_read (read_flight version) MAX_MESSAGES (list_of (map flight_tree link.to_a)) (map flight_parts link.to_a) to_a.1 (few_parts link.to_a range.few_to_a))
          (then_read _ (few_read (read_flight version) MAX_MESSAGES (list_of (map flight_tree link.to_b)) (map flight_parts link.to_b) to_b.1 (few_parts link.to_b range.few_to_b)) refl)))),
    )

-- ---- rows
pub row_says : (row : Row) → Says is_text read_folder_name row.folder (string row.folder) → Says is_whole (read_number 1 greatest_id) row.device (whole row.device) → IsRecordTold row.entry → IsRowTold row
unfolding is_row read_row row_tree
row_says row name device told = λ version short range.
    let entry = told version short range in (
      both_are refl (both_are refl (both_are refl entry.0)),
      then_read _ name.1 (then_read _ device.1 (then_read _ entry.1 refl)),
    )
