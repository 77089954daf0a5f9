-- What the tables of a cut are, from its folders with their shares and its links.
use Rattle.std.proofs.Common.{◌≡◌, List, [], map, Option, Some, None, Contains, option_map, unwrap_or, option_and_then, refl, sym, ap, subst, ◌∙◌, inl, inr, ⊎_elim}
use Rattle.std.specs.declared.cmp.Ordering.TheVariants.{Equal}
use Rattle.std.specs.Ordering.{nat_cmp, is_eq}
use Rattle.std.specs.List.{find}
use Rattle.std.specs.Cmp.{IsTotalOrder, nat_cmp_total, Equal-is}
use Rattle.std.specs.Cmp.Lexicographic.{nat_list_cmp_total}
use Rattle.std.specs.FinMap.{get, nat_cmp-IsAntisymmetric}
use Rattle.std.proofs.lemmas.Cmp.{then_total, on_total}
use Rattle.std.proofs.lemmas.Map.Lookups.{exact_bytes, exact_pairs}
use Rattle.std.proofs.lemmas.Map.Keys.{sorted_from_strictly_increasing}
use Rattle.std.proofs.lemmas.List.Elements.{All-contains, Contains-append_left, Contains-append_right, Contains-append_cases}
use Rattle.bep_facts.specs.Members.{Contains-from_image, Contains-image, not_in_none}
use Rattle.bep_record.specs.declared.entry.Entry.{Entry}
use Rattle.bep_model.specs.declared.flight.Flight.{Flight}
use Rattle.bep_model.specs.Tables.{Device, Folder, FileName, Shares}
use Rattle.bep_model.specs.Foreign.{IsFlying}
use Rattle.bep_tables.specs.declared.share.Share.{Share}
use Rattle.bep_tables.specs.declared.share.PeerView.{PeerView}
use Rattle.bep_tables.specs.declared.share.SharedFolder.{SharedFolder}
use Rattle.bep_tables.specs.declared.link.LinkState.{LinkState}
use Rattle.bep_tables.specs.declared.cut.CutParts.{CutParts}
use Rattle.bep_tables.specs.Cut.{AreShares, AreViews, ArePulls, IsFlight, IsLink, IsCut, devices_of, is_folder, shares_of, share_of, view_of, ends_of, ends_cmp, link_of, flights_of, tables_of}
use Rattle.bep_tables.specs.Laws.{FolderIsFound, ShareHasFolder, SharingIsSaid, OwnIsSaid, NodeIsSaid, ViewedIsSaid, TargetIsSaid, Carries, HasRecord, FlyingIsSaid, ReceiverShares}
use Rattle.bep_tables.proofs.Found.{found_itself, find_gives}

none_is_not_some : {A : Type 0} {a : A} → ◌≡◌ {A = Option A} None (Some a) → ⊥
none_is_not_some e = cc

pub folder_is_found : FolderIsFound
folder_is_found cut held is_cut h =
    ap (λ found. unwrap_or (option_map (λ (one : SharedFolder). one.shares) found) [])
    (found_itself nat_list_cmp_total (λ (one : SharedFolder). one.folder) cut.folders held is_cut.rise h)

pub share_has_folder : ShareHasFolder
share_has_folder cut folder share h = cases (find (is_folder folder) cut.folders) refl h where
  cases : (found : Option SharedFolder) → find (is_folder folder) cut.folders ≡ found → Contains (unwrap_or (option_map (λ (one : SharedFolder). one.shares) found) []) share → (held : SharedFolder) × Contains cut.folders held × (held.folder ≡ folder)
  cases None e there = absurd (not_in_none share there)
  cases (Some held) e there =
      let gives = find_gives (is_folder folder) cut.folders held e in
      (held, gives.0, exact_bytes held.folder folder ((Equal-is _).0 gives.1))

-- the shares of a folder are those of a cut
pub are_shares : (cut : CutParts) (folder : Folder) (share : Share) → IsCut cut → Contains (shares_of folder cut.folders) share → AreShares (shares_of folder cut.folders)
are_shares cut folder share is_cut h =
    let held = share_has_folder cut folder share h in
    let same : shares_of folder cut.folders ≡ held.0.shares = ap (λ f. shares_of f cut.folders) (sym held.2) ∙ folder_is_found cut held.0 is_cut held.1 in
    subst AreShares (sym same) (All-contains (λ (one : SharedFolder). AreShares one.shares) cut.folders held.0 is_cut.shares held.1)

pub share_is_found : (cut : CutParts) (folder : Folder) (share : Share) → IsCut cut → Contains (shares_of folder cut.folders) share → share_of share.device (shares_of folder cut.folders) ≡ Some share
share_is_found cut folder share is_cut h =
    found_itself nat_cmp_total (λ (one : Share). one.device) (shares_of folder cut.folders) share
    (sorted_from_strictly_increasing (devices_of (shares_of folder cut.folders)) (are_shares cut folder share is_cut h).rise) h

pub sharing_is_said : SharingIsSaid
unfolding tables_of
sharing_is_said cut folder device kind = (
  λ h. let found = Contains-from_image (λ (one : Share). (one.device, one.kind)) (shares_of folder cut.folders) (device, kind) h in
      (found.0, found.1, ap (λ p. p.0) found.2, ap (λ p. p.1) found.2),
  λ h. subst (Contains (map (λ (one : Share). (one.device, one.kind)) (shares_of folder cut.folders))) (λ i. (h.2 i, h.3 i)) (Contains-image (λ (one : Share). (one.device, one.kind)) (shares_of folder cut.folders) h.0 h.1),
)

pub own_is_said : OwnIsSaid
unfolding tables_of
own_is_said cut folder name share is_cut h =
    ap (option_and_then (λ (one : Share). get one.own name)) (share_is_found cut folder share is_cut h)

pub node_is_said : NodeIsSaid
unfolding tables_of
node_is_said cut folder name share is_cut h =
    ap (option_and_then (λ (one : Share). get one.store name)) (share_is_found cut folder share is_cut h)

-- ---- views and pulls
-- what a device knows of another is what its view of it has
pub viewed_by_share : (cut : CutParts) (folder : Folder) (name : FileName) (share : Share) (other : Device) → IsCut cut → Contains (shares_of folder cut.folders) share → (tables_of cut).viewed share.device other folder name ≡ option_and_then (λ (view : PeerView). get view.records name) (view_of other share.views)
unfolding tables_of
viewed_by_share cut folder name share other is_cut h =
    ap (option_and_then (λ (one : Share). option_and_then (λ (view : PeerView). get view.records name) (view_of other one.views))) (share_is_found cut folder share is_cut h)

-- a device's views are those of a cut
pub are_views : (cut : CutParts) (folder : Folder) (share : Share) → IsCut cut → Contains (shares_of folder cut.folders) share → AreViews (devices_of (shares_of folder cut.folders)) share.device share.views
are_views cut folder share is_cut h =
    All-contains (λ (one : Share). AreViews (devices_of (shares_of folder cut.folders)) one.device one.views) (shares_of folder cut.folders) share (are_shares cut folder share is_cut h).views h

pub are_pulls : (cut : CutParts) (folder : Folder) (share : Share) → IsCut cut → Contains (shares_of folder cut.folders) share → ArePulls share.pulls
are_pulls cut folder share is_cut h =
    All-contains (λ (one : Share). ArePulls one.pulls) (shares_of folder cut.folders) share (are_shares cut folder share is_cut h).pulls h

pub viewed_is_said : ViewedIsSaid
viewed_is_said cut folder name entry share is_cut h = (
  λ viewed. of_view viewed.0 (view_of viewed.0 share.views) refl (sym (viewed_by_share cut folder name share viewed.0 is_cut h) ∙ viewed.1),
  λ held.
      let rise = sorted_from_strictly_increasing (map (λ (view : PeerView). view.of) share.views) (are_views cut folder share is_cut h).rise in
      let found = found_itself nat_cmp_total (λ (view : PeerView). view.of) share.views held.0 rise held.1 in
      (held.0.of, viewed_by_share cut folder name share held.0.of is_cut h ∙ ap (option_and_then (λ (view : PeerView). get view.records name)) found ∙ held.2),
)
  where
    of_view : (other : Device) (found : Option PeerView) → view_of other share.views ≡ found → option_and_then (λ (view : PeerView). get view.records name) found ≡ Some entry → (view : PeerView) × Contains share.views view × (get view.records name ≡ Some entry)
    of_view other None e none = absurd (none_is_not_some none)
    of_view other (Some view) e some = (view, (find_gives _ share.views view e).0, some)

pub target_is_said : TargetIsSaid
unfolding tables_of
target_is_said cut folder name share is_cut h =
    ap (option_and_then (λ (one : Share). get one.pulls name)) (share_is_found cut folder share is_cut h)

-- ---- links
pub ends_total : IsTotalOrder ends_cmp
ends_total = then_total (on_total (λ (ends : Device × Device). ends.0) nat_cmp_total) (on_total (λ (ends : Device × Device). ends.1) nat_cmp_total)

pub same_ends : (one other : Device × Device) → ends_cmp one other ≡ Equal → one ≡ other
same_ends = exact_pairs nat_cmp nat_cmp nat_cmp-IsAntisymmetric nat_cmp-IsAntisymmetric

-- a link is found by its ends
pub link_is_found : (cut : CutParts) (link : LinkState) → IsCut cut → Contains cut.links link → link_of link.a link.b cut.links ≡ Some link
link_is_found cut link is_cut h = found_itself ends_total ends_of cut.links link is_cut.links_rise h

pub is_link : (cut : CutParts) (link : LinkState) → IsCut cut → Contains cut.links link → IsLink cut.folders link
is_link cut link is_cut h = All-contains (IsLink cut.folders) cut.links link is_cut.links h

-- what is found for two ends has these
pub link_has_ends : (a b : Device) (links : List LinkState) (link : LinkState) → link_of a b links ≡ Some link → Contains links link × (link.a ≡ a) × (link.b ≡ b)
link_has_ends a b links link found =
    let gives = find_gives (λ (one : LinkState). is_eq (ends_cmp (ends_of one) (a, b))) links link found in
    let same = same_ends (ends_of link) (a, b) ((Equal-is _).0 gives.1) in
    (gives.0, ap (λ p. p.0) same, ap (λ p. p.1) same)

-- a device of a folder's shares shares it
shares_it : (cut : CutParts) (folder : Folder) (device : Device) → Contains (devices_of (shares_of folder cut.folders)) device → Shares (tables_of cut) device folder
shares_it cut folder device h =
    let share = Contains-from_image (λ (one : Share). one.device) (shares_of folder cut.folders) device h in
    (share.0.kind, (sharing_is_said cut folder device share.0.kind).1 (share.0, share.1, share.2, refl))

-- what is on its way over a link comes from and goes to devices that share its folder
to_a_shared : (cut : CutParts) (link : LinkState) (flight : Flight) → IsCut cut → Contains cut.links link → Contains link.to_a flight → IsFlight cut.folders link.a link.b flight
to_a_shared cut link flight is_cut h there = All-contains (IsFlight cut.folders link.a link.b) link.to_a flight (is_link cut link is_cut h).to_a there

to_b_shared : (cut : CutParts) (link : LinkState) (flight : Flight) → IsCut cut → Contains cut.links link → Contains link.to_b flight → IsFlight cut.folders link.a link.b flight
to_b_shared cut link flight is_cut h there = All-contains (IsFlight cut.folders link.a link.b) link.to_b flight (is_link cut link is_cut h).to_b there

pub receiver_shares : ReceiverShares
receiver_shares cut link device flight is_cut h (inl to_a) =
    subst (λ one. Shares (tables_of cut) one flight.folder) to_a.0 (shares_it cut flight.folder link.a (to_a_shared cut link flight is_cut h to_a.1).shared_by_a)
receiver_shares cut link device flight is_cut h (inr to_b) =
    subst (λ one. Shares (tables_of cut) one flight.folder) to_b.0 (shares_it cut flight.folder link.b (to_b_shared cut link flight is_cut h to_b.1).shared_by_b)

-- ---- messages on their way
-- what is on its way from one device to another is what a link carries
on_link : (from to : Device) (links : List LinkState) (flight : Flight) → Contains (flights_of from to links) flight → (link : LinkState) × Contains links link × Carries link to flight
on_link from to links flight h =
    ⊎_elim
    (carried from to (λ link. link.to_b) (λ link a b there. inr (b, there)) (link_of from to links) refl)
    (carried to from (λ link. link.to_a) (λ link a b there. inl (a, there)) (link_of to from links) refl)
    (Contains-append_cases
    (unwrap_or (option_map (λ (link : LinkState). link.to_b) (link_of from to links)) [])
    (unwrap_or (option_map (λ (link : LinkState). link.to_a) (link_of to from links)) []) flight h)
  where
    carried : (a b : Device) (flights : LinkState → List Flight) → ((link : LinkState) → link.a ≡ a → link.b ≡ b → Contains (flights link) flight → Carries link to flight) → (found : Option LinkState) → link_of a b links ≡ found → Contains (unwrap_or (option_map flights found) []) flight → (link : LinkState) × Contains links link × Carries link to flight
    carried a b flights carries None e there = absurd (not_in_none flight there)
    carried a b flights carries (Some link) e there = let ends = link_has_ends a b links link e in (link, ends.0, carries link ends.1 ends.2 there)

-- and what a link carries is on its way between its ends
where_found : (cut : CutParts) (link : LinkState) (flight : Flight) (flights : LinkState → List Flight) → IsCut cut → Contains cut.links link → Contains (flights link) flight → Contains (unwrap_or (option_map flights (link_of link.a link.b cut.links)) []) flight
where_found cut link flight flights is_cut h there =
    subst (λ found. Contains (unwrap_or (option_map flights found) []) flight) (sym (link_is_found cut link is_cut h)) there

flies_to_a : (cut : CutParts) (link : LinkState) (flight : Flight) → IsCut cut → Contains cut.links link → Contains link.to_a flight → Contains (flights_of link.b link.a cut.links) flight
flies_to_a cut link flight is_cut h there = Contains-append_right _ _ flight (where_found cut link flight (λ one. one.to_a) is_cut h there)

flies_to_b : (cut : CutParts) (link : LinkState) (flight : Flight) → IsCut cut → Contains cut.links link → Contains link.to_b flight → Contains (flights_of link.a link.b cut.links) flight
flies_to_b cut link flight is_cut h there = Contains-append_left _ _ flight (where_found cut link flight (λ one. one.to_b) is_cut h there)

-- a message that one device sends to another, as the tables have it
flying_from : (cut : CutParts) (sender device : Device) (flight : Flight) (folder : Folder) (name : FileName) (entry : Entry) → Shares (tables_of cut) sender flight.folder → Contains (flights_of sender device cut.links) flight → HasRecord flight folder name entry → IsFlying (tables_of cut) device folder name entry
unfolding tables_of
flying_from cut sender device flight folder name entry shares sent has = record {
  sender = sender;
  shares = subst (Shares (tables_of cut) sender) has.0 shares;
  flight = flight;
  sent = sent;
  same_folder = has.0;
  carried = has.1;
  same_name = has.2;
}

-- a message that a link carries, as the tables have it
flying_over : (cut : CutParts) (link : LinkState) (flight : Flight) (device : Device) (folder : Folder) (name : FileName) (entry : Entry) → IsCut cut → Contains cut.links link → Carries link device flight → HasRecord flight folder name entry → IsFlying (tables_of cut) device folder name entry
flying_over cut link flight device folder name entry is_cut h (inl to_a) has =
    flying_from cut link.b device flight folder name entry
    (shares_it cut flight.folder link.b (to_a_shared cut link flight is_cut h to_a.1).shared_by_b)
    (subst (λ one. Contains (flights_of link.b one cut.links) flight) to_a.0 (flies_to_a cut link flight is_cut h to_a.1)) has
flying_over cut link flight device folder name entry is_cut h (inr to_b) has =
    flying_from cut link.a device flight folder name entry
    (shares_it cut flight.folder link.a (to_b_shared cut link flight is_cut h to_b.1).shared_by_a)
    (subst (λ one. Contains (flights_of link.a one cut.links) flight) to_b.0 (flies_to_b cut link flight is_cut h to_b.1)) has

pub flying_is_said : FlyingIsSaid
unfolding tables_of
flying_is_said cut device folder name entry is_cut = (
  λ flying.
      let over = on_link flying.sender device cut.links flying.flight flying.sent in
      (over.0, flying.flight, over.1, over.2, (flying.same_folder, flying.carried, flying.same_name)),
  λ over. flying_over cut over.0 over.1 device folder name entry is_cut over.2 over.3 over.4,
)
