-- Documents of version 2 have room for each cut, and those of version 1 for the winners of a cut for which they have room.
use Rattle.std.proofs.Common.{◌≡◌, ◌≤◌, ℕ, List, [], ◌∷◌, length, find, Option, Some, None, Contains, option_and_then, option_map, unwrap_or, refl}
use Rattle.std.specs.FinMap.{entries, get, values}
use Rattle.std.specs.List.{AllByRecursion}
use Rattle.bep_facts.specs.Members.{Contains-first, Contains-more, holds_of_member}
use Rattle.bep_facts.specs.Values.{value_at_key}
use Rattle.bep_record.proofs.BlockSizeFacts.{few_bytes}
use Rattle.bep_record.specs.Entry.{IsWellFormed}
use Rattle.bep_record.specs.Node.{IsNode}
use Rattle.bep_record.specs.declared.entry.Entry.{Entry}
use Rattle.bep_record.specs.declared.node.NodeParts.{NodeParts}
use Rattle.bep_json.specs.declared.version.DocVersion.{DocVersion}
use Rattle.bep_json.specs.declared.version.DocVersion.TheVariants.{One, Two}
use Rattle.bep_json.specs.Version.{most_file_bytes}
use Rattle.bep_model.specs.Tables.{Device, Folder, FileName}
use Rattle.bep_model.specs.declared.row.Row.{Row}
use Rattle.bep_tables.proofs.Found.{find_gives}
use Rattle.bep_tables.specs.declared.share.Share.{Share}
use Rattle.bep_tables.specs.declared.share.SharedFolder.{SharedFolder}
use Rattle.bep_tables.specs.declared.link.LinkState.{LinkState}
use Rattle.bep_tables.specs.declared.cut.CutParts.{CutParts}
use Rattle.bep_tables.specs.Cut.{is_device, is_folder, share_of, shares_of, tables_of}
use Rattle.bep_cut_document.specs.Room.{AreShort, IsViewShort, IsShareShort, IsFolderShort, IsFlightShort, IsLinkShort, IsCutShort, AreRowsShort, HasRoom, HasRoomForRows, WinnersHaveRoom}
use Rattle.bep_cut_document.specs.inner.Sound.{IsViewSound, IsShareSound, IsFolderSound, IsFlightSound, IsLinkSound}
use Rattle.bep_cut_document.specs.inner.Told.{IsCutTold}
use Rattle.bep_cut_document.proofs.RangeTold.{all_map}
use Rattle.bep_cut_document.proofs.WinnersInRange.{owned_says}

-- ---- version 2 has room for what is sound
records_short : (records : List Entry) → AllByRecursion IsWellFormed records → AreShort Two records
records_short records sound = all_map IsWellFormed (λ (entry : Entry). entry.size ≤ most_file_bytes Two) few_bytes records sound

nodes_short : (nodes : List (List ℕ × NodeParts)) → AllByRecursion (λ held. IsNode held.1) nodes → AllByRecursion (λ held. length held.1.bytes ≤ most_file_bytes Two) nodes
nodes_short nodes sound =
    all_map (λ (held : List ℕ × NodeParts). IsNode held.1) (λ (held : List ℕ × NodeParts). length held.1.bytes ≤ most_file_bytes Two) (λ held node. node.size) nodes sound

share_short : (share : Share) → IsShareSound share → IsShareShort Two share
share_short share sound = record {
  own = records_short (values share.own) sound.own;
  store = nodes_short (entries share.store) sound.store;
  views = all_map IsViewSound (IsViewShort Two) (λ view known. records_short (values view.records) known) share.views sound.views;
  pulls = records_short (values share.pulls) sound.pulls;
}

link_short : (link : LinkState) → IsLinkSound link → IsLinkShort Two link
link_short link sound = record {
  to_a = all_map IsFlightSound (IsFlightShort Two) (λ flight carried. records_short flight.records carried) link.to_a sound.to_a;
  to_b = all_map IsFlightSound (IsFlightShort Two) (λ flight carried. records_short flight.records carried) link.to_b sound.to_b;
}

pub cut_short : (cut : CutParts) → AllByRecursion IsFolderSound cut.folders → AllByRecursion IsLinkSound cut.links → IsCutShort Two cut
cut_short cut folders links = record {
  folders = all_map IsFolderSound (IsFolderShort Two) (λ shared sound. all_map IsShareSound (IsShareShort Two) share_short shared.shares sound) cut.folders folders;
  links = all_map IsLinkSound (IsLinkShort Two) link_short cut.links links;
}

-- ---- what there is room for is short
pub short_where_room : (version : DocVersion) (cut : CutParts) → IsCutTold cut → HasRoom version cut → IsCutShort version cut
short_where_room One cut told room = room
short_where_room Two cut told room = told.short

pub rows_short_where_room : (version : DocVersion) (rows : List Row) → AllByRecursion (λ (row : Row). IsWellFormed row.entry) rows → HasRoomForRows version rows → AreRowsShort version rows
rows_short_where_room One rows sound room = room
rows_short_where_room Two rows sound room =
    all_map (λ (row : Row). IsWellFormed row.entry) (λ (row : Row). row.entry.size ≤ most_file_bytes Two) (λ row formed. few_bytes row.entry formed) rows sound

-- ---- winners
folder_short : (folder : Folder) (folders : List SharedFolder) → AllByRecursion (IsFolderShort One) folders →
    (found : Option SharedFolder) → find (is_folder folder) folders ≡ found → AllByRecursion (IsShareShort One) (unwrap_or (option_map (λ (shared : SharedFolder). shared.shares) found) [])
folder_short folder folders all None at = tt
folder_short folder folders all (Some shared) at = holds_of_member (IsFolderShort One) folders shared all (find_gives (is_folder folder) folders shared at).0

own_short : (cut : CutParts) (device : Device) (folder : Folder) (name : FileName) (entry : Entry) → IsCutShort One cut → (tables_of cut).own device folder name ≡ Some entry → entry.size ≤ most_file_bytes One
unfolding tables_of
own_short cut device folder name entry short own = cases (share_of device (shares_of folder cut.folders)) refl own
  where
    shares : AllByRecursion (IsShareShort One) (shares_of folder cut.folders)
    shares = folder_short folder cut.folders short.folders (find (is_folder folder) cut.folders) refl

    cases : (found : Option Share) → share_of device (shares_of folder cut.folders) ≡ found → option_and_then (λ (share : Share). get share.own name) found ≡ Some entry → entry.size ≤ most_file_bytes One
    cases None at has = absurd (cc)
    cases (Some share) at has =
        let there = (find_gives (is_device device) (shares_of folder cut.folders) share at).0 in
        let of_share = holds_of_member (IsShareShort One) (shares_of folder cut.folders) share shares there in
        holds_of_member (λ (one : Entry). one.size ≤ most_file_bytes One) (values share.own) entry of_share.own (value_at_key share.own name entry has)

rows_short : (rows : List Row) → ((row : Row) → Contains rows row → row.entry.size ≤ most_file_bytes One) → AreRowsShort One rows
rows_short [] each = tt
rows_short (row ∷ more) each = (each row (Contains-first row more), rows_short more (λ other there. each other (Contains-more row more other there)))

pub winners_have_room : (cut : CutParts) → WinnersHaveRoom cut
winners_have_room cut Two rows room winners = tt
winners_have_room cut One rows room winners = rows_short rows (λ row there.
    own_short cut row.device row.folder row.entry.name row.entry room
    (owned_says (tables_of cut) row.folder row.entry.name ((tables_of cut).sharing row.folder) (row.device, row.entry) (winners row there).left.valid.0))
