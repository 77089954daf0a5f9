-- A document's version has room for the cut that is read of it.
use Rattle.std.proofs.Common.{◌≡◌, ◌≤◌, ℕ, List, [], ◌∷◌, map, length, Contains, refl, subst, ⊎_elim}
use Rattle.std.specs.Cmp.Lexicographic.{nat_list_cmp_total, slice_cmp}
use Rattle.std.specs.Ordering.{nat_cmp}
use Rattle.std.specs.FinMap.{empty, entries, values}
use Rattle.std.specs.List.{AllByRecursion}
use Rattle.std.proofs.lemmas.Map.Lookups.{exact_bytes}
use Rattle.bep_facts.specs.Maps.{nothing_in_empty}
use Rattle.bep_facts.specs.Members.{Contains-image, holds_of_member}
use Rattle.bep_facts.specs.Values.{key_of_value}
use Rattle.bep_record.specs.declared.entry.Entry.{Entry}
use Rattle.bep_record.specs.declared.node.NodeParts.{NodeParts}
use Rattle.bep_index.specs.Batch.{NamesDiffer, with_all}
use Rattle.bep_index.specs.Laws.{RecordsAreFound}
use Rattle.bep_json.specs.declared.nodes.NamedParts.{NamedParts}
use Rattle.bep_json.specs.declared.version.DocVersion.{DocVersion}
use Rattle.bep_json.specs.declared.version.DocVersion.TheVariants.{One, Two}
use Rattle.bep_json.specs.Version.{most_file_bytes}
use Rattle.bep_document.specs.Faultless.{IsFaultlessIndex, IsFaultlessShare, IsFaultlessFolder, IsFaultless, CutDocumentsAreFaultless}
use Rattle.bep_document.specs.Short as parts
use Rattle.bep_document.specs.Reading.{Reading, Read, Refused, ◌>>=◌, reading_of_cut_document}
use Rattle.bep_document.specs.declared.parts.ShareParts.{ShareParts}
use Rattle.bep_document.specs.declared.parts.ViewParts.{ViewParts}
use Rattle.bep_document.specs.declared.parts.FolderParts.{FolderParts}
use Rattle.bep_document.specs.declared.parts.FlightParts.{FlightParts}
use Rattle.bep_document.specs.declared.parts.LinkParts.{LinkParts}
use Rattle.bep_document.specs.declared.parts.CheckParts.{CheckParts}
use Rattle.bep_tables.specs.declared.cut.CutParts.{CutParts}
use Rattle.bep_cut_document.specs.Room.{AreShort, AreNodesShort, IsViewShort, IsShareShort, IsFolderShort, IsFlightShort, IsLinkShort, IsCutShort, HasRoom, CutsOfDocumentsHaveRoom}
use Rattle.bep_cut_document.specs.Written.{by_device, by_ends, by_folder, with_nodes, share_written, folder_written, flight_written, link_written, cut_written}
use Rattle.bep_cut_document.proofs.AsWrittenFacts.{found_as_listed, found_node, named}
use Rattle.bep_cut_document.proofs.RangeTold.{each_of}
use Rattle.bep_cut_document.proofs.WrittenFacts.{from_part, view_part}

records_short : RecordsAreFound → (version : DocVersion) (records : List Entry) → NamesDiffer records → parts.AreShort version records → AreShort version (values (with_all empty records))
records_short found version records differ all =
    each_of (λ (entry : Entry). entry.size ≤ most_file_bytes version) (values (with_all empty records)) (λ entry h.
    let at = key_of_value nat_list_cmp_total exact_bytes (with_all empty records) entry h in
    let listed = (found_as_listed found records at.0 entry differ).0 at.1 in
    holds_of_member (λ (one : Entry). one.size ≤ most_file_bytes version) records entry all listed.0)

nodes_short : (version : DocVersion) (nodes : List NamedParts) → parts.AreNodesShort version nodes → AreNodesShort version (with_nodes empty nodes)
nodes_short version nodes all =
    each_of (λ (held : List ℕ × NodeParts). length held.1.bytes ≤ most_file_bytes version) (entries (with_nodes empty nodes)) (λ held h.
    let value = Contains-image (λ (e : List ℕ × NodeParts). e.1) (entries (with_nodes empty nodes)) held h in
    let at = key_of_value nat_list_cmp_total exact_bytes (with_nodes empty nodes) held.1 value in
    let listed : Contains nodes (named at.0 held.1) = ⊎_elim (λ l. l) (λ none. nothing_in_empty (slice_cmp nat_cmp) at.0 held.1 none) (found_node empty nodes at.0 held.1 at.1) in
    holds_of_member (λ (node : NamedParts). length node.parts.bytes ≤ most_file_bytes version) nodes (named at.0 held.1) all listed)

share_short : RecordsAreFound → (version : DocVersion) (share : ShareParts) → IsFaultlessShare share → parts.IsShareShort version share → IsShareShort version (share_written share)
share_short found version share free short = record {
  own = records_short found version share.own free.own_records.names short.own;
  store = nodes_short version share.store short.store;
  views = each_of (IsViewShort version) (share_written share).views (λ view h.
      let part = view_part share view h in
      let index = holds_of_member (λ (one : ViewParts). IsFaultlessIndex one.max one.records) share.views part.0 free.views part.1 in
      subst (IsViewShort version) part.2
      (records_short found version part.0.records index.names (holds_of_member (parts.IsViewShort version) share.views part.0 short.views part.1)));
  pulls = records_short found version share.pulls free.pulled.names short.pulls;
}

folder_short : RecordsAreFound → (version : DocVersion) (folder : FolderParts) → IsFaultlessFolder folder → parts.IsFolderShort version folder → IsFolderShort version (folder_written folder)
folder_short found version folder free short =
    each_of (IsShareShort version) (folder_written folder).shares (λ share h.
    let part = from_part by_device share_written folder.devices share h in
    subst (IsShareShort version) part.2
    (share_short found version part.0 (holds_of_member IsFaultlessShare folder.devices part.0 free.shares part.1) (holds_of_member (parts.IsShareShort version) folder.devices part.0 short part.1)))

flights_short : (version : DocVersion) (flights : List FlightParts) → AllByRecursion (parts.IsFlightShort version) flights → AllByRecursion (IsFlightShort version) (map flight_written flights)
flights_short version [] all = tt
flights_short version (flight ∷ more) all = (all.0, flights_short version more all.1)

link_short : (version : DocVersion) (link : LinkParts) → parts.IsLinkShort version link → IsLinkShort version (link_written link)
link_short version link short = record { to_a = flights_short version link.to_a short.to_a; to_b = flights_short version link.to_b short.to_b }

cut_short : RecordsAreFound → (version : DocVersion) (said : CheckParts) → IsFaultless said → parts.IsCutShort version said.folders said.links → IsCutShort version (cut_written said.folders said.links)
cut_short found version said free short = record {
  folders = each_of (IsFolderShort version) (cut_written said.folders said.links).folders (λ shared h.
      let part = from_part by_folder folder_written said.folders shared h in
      subst (IsFolderShort version) part.2
      (folder_short found version part.0 (holds_of_member IsFaultlessFolder said.folders part.0 free.each_folder part.1) (holds_of_member (parts.IsFolderShort version) said.folders part.0 short.each_folder part.1)));
  links = each_of (IsLinkShort version) (cut_written said.folders said.links).links (λ link h.
      let part = from_part by_ends link_written said.links link h in
      subst (IsLinkShort version) part.2 (link_short version part.0 (holds_of_member (parts.IsLinkShort version) said.links part.0 short.each_link part.1)));
}

room_where_short : (version : DocVersion) (cut : CutParts) → IsCutShort version cut → HasRoom version cut
room_where_short One cut short = short
room_where_short Two cut short = tt

pub have_room : RecordsAreFound → CutDocumentsAreFaultless → parts.CutsOfDocumentsAreShort → CutsOfDocumentsHaveRoom
have_room found faultless short bytes said e = cases (reading_of_cut_document bytes) refl e
  where
    made : CheckParts → Reading (DocVersion × CutParts)
    made one = Read (one.version, cut_written one.folders one.links)

    cases : (reading : Reading CheckParts) → reading_of_cut_document bytes ≡ reading → (reading >>= made) ≡ Read said → HasRoom said.0 said.1
    cases (Read one) is made_of =
        let same : (one.version, cut_written one.folders one.links) ≡ said = cc in
        subst (λ (pair : DocVersion × CutParts). HasRoom pair.0 pair.1) same
        (room_where_short one.version (cut_written one.folders one.links) (cut_short found one.version one (faultless bytes one is) (short bytes one is)))
    cases (Refused fault) is made_of = absurd (cc)
