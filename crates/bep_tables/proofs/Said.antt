-- The entries of a cut are what its tables say.
use Rattle.std.proofs.Common.{◌≡◌, ◌++◌, ℕ, Bool, true, false, cond, List, [], ◌∷◌, map, flat_map, Option, Some, None, Contains, option_and_then, refl, sym, ap, subst, ◌∙◌, inl, inr, ⊎_elim}
use Rattle.std.specs.Cmp.{Equal-is}
use Rattle.std.specs.FinMap.{get, entries, nat_cmp-IsAntisymmetric}
use Rattle.std.proofs.lemmas.List.Elements.{Contains-append_left, Contains-append_right, Contains-append_cases}
use Rattle.std.specs.Cmp.Lexicographic.{nat_list_cmp_total}
use Rattle.std.proofs.lemmas.Map.Lookups.{exact_bytes}
use Rattle.bep_facts.specs.Entries.{entry_stands}
use Rattle.bep_facts.specs.Members.{Contains-from_image, Contains-image, Contains-flat_map, Contains-from_flat_map, Contains-first, Contains-one, not_in_none}
use Rattle.bep_record.specs.declared.entry.Entry.{Entry}
use Rattle.bep_record.specs.declared.node.NodeParts.{NodeParts}
use Rattle.bep_map.specs.NameMap.{ByName}
use Rattle.bep_model.specs.declared.flight.Flight.{Flight}
use Rattle.bep_model.specs.Tables.{Device, Folder, FileName, Shares}
use Rattle.bep_model.specs.Foreign.{IsViewed, IsFlying}
use Rattle.bep_tables.specs.declared.share.Share.{Share}
use Rattle.bep_tables.specs.declared.share.PeerView.{PeerView}
use Rattle.bep_tables.specs.declared.share.SharedFolder.{SharedFolder}
use Rattle.bep_tables.specs.declared.link.LinkState.{LinkState}
use Rattle.bep_tables.specs.declared.cut.CutParts.{CutParts}
use Rattle.bep_tables.specs.declared.table.entry.Source.{Source}
use Rattle.bep_tables.specs.declared.table.entry.Source.TheVariants as from
use Rattle.bep_tables.specs.Cut.{IsCut, is_device, shares_of, share_of, view_of, tables_of}
use Rattle.bep_tables.specs.Laws.{Carries}
use Rattle.bep_tables.specs.Listed.{Holding, Record, Node, Listed, recorded, stored, flying, records_listed, nodes_listed, foreign_listed, view_listed, views_listed, share_listed, folder_listed, flight_listed, link_listed, cut_listed}
use Rattle.bep_tables.specs.Said.{Holds, EntriesAreHeld, HoldersShare}
use Rattle.bep_tables.proofs.Found.{find_gives}
use Rattle.bep_tables.proofs.Tables.{folder_is_found, share_has_folder, sharing_is_said, own_is_said, node_is_said, viewed_is_said, target_is_said, flying_is_said, receiver_shares, are_pulls}

-- ---- a record from elsewhere
module _ (folder : Folder) (device : Device) (source : Source) (x : FileName × Entry) where
  -- it has an entry only where it isn't invalid
  from_elsewhere : (one : Listed) → Contains (foreign_listed folder device source x) one → (x.1.invalid ≡ false) × (recorded folder device source x ≡ one)
  from_elsewhere one = cases x.1.invalid refl where
    cases : (b : Bool) → x.1.invalid ≡ b → Contains (cond b [] (recorded folder device source x ∷ [])) one → (x.1.invalid ≡ false) × (recorded folder device source x ≡ one)
    cases true is there = absurd (not_in_none one there)
    cases false is there = (is, Contains-one (recorded folder device source x) one there)

  -- and then it has one
  is_elsewhere : x.1.invalid ≡ false → Contains (foreign_listed folder device source x) (recorded folder device source x)
  is_elsewhere valid =
      subst (λ (b : Bool). Contains (cond b [] (recorded folder device source x ∷ [])) (recorded folder device source x)) (sym valid) (Contains-first (recorded folder device source x) [])

module _ (cut : CutParts) (is_cut : IsCut cut) where
  abbrev SharesOf : Folder → List Share
  SharesOf folder = shares_of folder cut.folders

  abbrev IsHeld : Listed → Type 0
  IsHeld one = Holds (tables_of cut) one.device one.folder one.name one.holding

  -- held by a device that shares the folder
  abbrev IsHeldThere : Listed → Type 0
  IsHeldThere one = IsHeld one × Shares (tables_of cut) one.device one.folder

  -- what is listed of a share
  abbrev Own : Folder → Share → List Listed
  Own folder share = records_listed folder share.device from.Own share.own

  abbrev Nodes : Folder → Share → List Listed
  Nodes folder share = nodes_listed folder share.device share.store

  abbrev Views : Folder → Share → List Listed
  Views folder share = views_listed folder share.device share.views

  abbrev Pulls : Folder → Share → List Listed
  Pulls folder share = records_listed folder share.device from.Pull share.pulls

  -- ---- what is listed of a share is held
  shares_it : (folder : Folder) (share : Share) → Contains (SharesOf folder) share → Shares (tables_of cut) share.device folder
  shares_it folder share h = (share.kind, (sharing_is_said cut folder share.device share.kind).1 (share, h, refl, refl))

  held_entry : {V : Type 0} (show : List ℕ × V → Listed) (held : ByName V) (one : Listed) → ((name : FileName) (v : V) → get held name ≡ Some v → IsHeldThere (show (name, v))) → Contains (map show (entries held)) one → IsHeldThere one
  held_entry show held one says there =
      let found = Contains-from_image show (entries held) one there in
      subst IsHeldThere found.2 (says found.0.0 found.0.1 ((entry_stands nat_list_cmp_total exact_bytes held found.0.0 found.0.1).1 found.1))

  held_own : (folder : Folder) (share : Share) (one : Listed) → Contains (SharesOf folder) share → Contains (records_listed folder share.device from.Own share.own) one → IsHeldThere one
  held_own folder share one h =
      held_entry (recorded folder share.device from.Own) share.own one (λ name entry has. (own_is_said cut folder name share is_cut h ∙ has, shares_it folder share h))

  held_node : (folder : Folder) (share : Share) (one : Listed) → Contains (SharesOf folder) share → Contains (nodes_listed folder share.device share.store) one → IsHeldThere one
  held_node folder share one h =
      held_entry (stored folder share.device) share.store one (λ name node has. (node_is_said cut folder name share is_cut h ∙ has, shares_it folder share h))

  held_pull : (folder : Folder) (share : Share) (one : Listed) → Contains (SharesOf folder) share → Contains (records_listed folder share.device from.Pull share.pulls) one → IsHeldThere one
  held_pull folder share one h =
      held_entry (recorded folder share.device from.Pull) share.pulls one (λ name entry has. ((target_is_said cut folder name share is_cut h ∙ has, ((are_pulls cut folder share is_cut h).named name entry has).1), shares_it folder share h))

  held_view : (folder : Folder) (share : Share) (one : Listed) → Contains (SharesOf folder) share → Contains (views_listed folder share.device share.views) one → IsHeldThere one
  held_view folder share one h there =
      let view = Contains-from_flat_map (view_listed folder share.device) share.views one there in
      let found = Contains-from_flat_map (foreign_listed folder share.device from.View) (entries view.0.records) one view.2 in
      let is = from_elsewhere folder share.device from.View found.0 one found.2 in
      let has = (entry_stands nat_list_cmp_total exact_bytes view.0.records found.0.0 found.0.1).1 found.1 in
      subst IsHeldThere is.1 (((viewed_is_said cut folder found.0.0 found.0.1 share is_cut h).1 (view.0, view.1, has), is.0), shares_it folder share h)

  held_share : (folder : Folder) (share : Share) (one : Listed) → Contains (SharesOf folder) share → Contains (share_listed folder share) one → IsHeldThere one
  unfolding share_listed
  held_share folder share one h there =
      ⊎_elim
      (λ others.
      ⊎_elim
      (λ here. ⊎_elim (held_own folder share one h) (held_node folder share one h) (Contains-append_cases (Own folder share) (Nodes folder share) one here))
      (held_view folder share one h)
      (Contains-append_cases (Own folder share ++ Nodes folder share) (Views folder share) one others))
      (held_pull folder share one h)
      (Contains-append_cases (Own folder share ++ Nodes folder share ++ Views folder share) (Pulls folder share) one there)

  held_folder : (shared : SharedFolder) (one : Listed) → Contains cut.folders shared → Contains (folder_listed shared) one → IsHeldThere one
  held_folder shared one h there =
      let share = Contains-from_flat_map (share_listed shared.folder) shared.shares one there in
      held_share shared.folder share.0 one (subst (λ shares. Contains shares share.0) (sym (folder_is_found cut shared is_cut h)) share.1) share.2

  -- ---- what is listed of a link is held
  held_flight : (link : LinkState) (device : Device) (flight : Flight) (one : Listed) → Contains cut.links link → Carries link device flight → Contains (flight_listed device flight) one → IsHeldThere one
  held_flight link device flight one h carries there =
      let found = Contains-from_flat_map (flying flight.folder device) flight.records one there in
      let is = from_elsewhere flight.folder device from.Flight (found.0.name, found.0) one found.2 in
      subst IsHeldThere is.1 (
        ((flying_is_said cut device flight.folder found.0.name found.0 is_cut).1 (link, flight, h, carries, (refl, found.1, refl)), is.0),
        receiver_shares cut link device flight is_cut h carries,
      )

  held_link : (link : LinkState) (one : Listed) → Contains cut.links link → Contains (link_listed link) one → IsHeldThere one
  unfolding link_listed
  held_link link one h there =
      ⊎_elim
      (λ to_a. let flight = Contains-from_flat_map (flight_listed link.a) link.to_a one to_a in held_flight link link.a flight.0 one h (inl (refl, flight.1)) flight.2)
      (λ to_b. let flight = Contains-from_flat_map (flight_listed link.b) link.to_b one to_b in held_flight link link.b flight.0 one h (inr (refl, flight.1)) flight.2)
      (Contains-append_cases (flat_map (flight_listed link.a) link.to_a) (flat_map (flight_listed link.b) link.to_b) one there)

  held_there : (one : Listed) → Contains (cut_listed cut) one → IsHeldThere one
  unfolding cut_listed
  held_there one h =
      ⊎_elim
      (λ of_folders. let shared = Contains-from_flat_map folder_listed cut.folders one of_folders in held_folder shared.0 one shared.1 shared.2)
      (λ of_links. let link = Contains-from_flat_map link_listed cut.links one of_links in held_link link.0 one link.1 link.2)
      (Contains-append_cases (flat_map folder_listed cut.folders) (flat_map link_listed cut.links) one h)

  -- ---- what is held is listed
  listed_in_share : (folder : Folder) (share : Share) (one : Listed) → Contains (SharesOf folder) share → Contains (share_listed folder share) one → Contains (cut_listed cut) one
  unfolding cut_listed
  listed_in_share folder share one h there =
      let shared = share_has_folder cut folder share h in
      let same : SharesOf folder ≡ shared.0.shares = ap (λ f. shares_of f cut.folders) (sym shared.2) ∙ folder_is_found cut shared.0 is_cut shared.1 in
      Contains-append_left (flat_map folder_listed cut.folders) (flat_map link_listed cut.links) one
      (Contains-flat_map folder_listed cut.folders shared.0 one shared.1
      (Contains-flat_map (share_listed shared.0.folder) shared.0.shares share one (subst (λ shares. Contains shares share) same h)
      (subst (λ f. Contains (share_listed f share) one) (sym shared.2) there)))

  listed_own : (folder : Folder) (name : FileName) (share : Share) (entry : Entry) → Contains (SharesOf folder) share → get share.own name ≡ Some entry → Contains (share_listed folder share) (recorded folder share.device from.Own (name, entry))
  unfolding share_listed
  listed_own folder name share entry h has =
      let one = recorded folder share.device from.Own (name, entry) in
      Contains-append_left (Own folder share ++ Nodes folder share ++ Views folder share) (Pulls folder share) one
      (Contains-append_left (Own folder share ++ Nodes folder share) (Views folder share) one
      (Contains-append_left (Own folder share) (Nodes folder share) one
      (Contains-image (recorded folder share.device from.Own) (entries share.own) (name, entry) ((entry_stands nat_list_cmp_total exact_bytes share.own name entry).0 has))))

  listed_node : (folder : Folder) (name : FileName) (share : Share) (node : NodeParts) → Contains (SharesOf folder) share → get share.store name ≡ Some node → Contains (share_listed folder share) (stored folder share.device (name, node))
  unfolding share_listed
  listed_node folder name share node h has =
      let one = stored folder share.device (name, node) in
      Contains-append_left (Own folder share ++ Nodes folder share ++ Views folder share) (Pulls folder share) one
      (Contains-append_left (Own folder share ++ Nodes folder share) (Views folder share) one
      (Contains-append_right (Own folder share) (Nodes folder share) one
      (Contains-image (stored folder share.device) (entries share.store) (name, node) ((entry_stands nat_list_cmp_total exact_bytes share.store name node).0 has))))

  listed_view : (folder : Folder) (name : FileName) (share : Share) (view : PeerView) (entry : Entry) → Contains (SharesOf folder) share → Contains share.views view → get view.records name ≡ Some entry → entry.invalid ≡ false → Contains (share_listed folder share) (recorded folder share.device from.View (name, entry))
  unfolding share_listed
  listed_view folder name share view entry h there has valid =
      let one = recorded folder share.device from.View (name, entry) in
      Contains-append_left (Own folder share ++ Nodes folder share ++ Views folder share) (Pulls folder share) one
      (Contains-append_right (Own folder share ++ Nodes folder share) (Views folder share) one
      (Contains-flat_map (view_listed folder share.device) share.views view one there
      (Contains-flat_map (foreign_listed folder share.device from.View) (entries view.records) (name, entry) one ((entry_stands nat_list_cmp_total exact_bytes view.records name entry).0 has)
      (is_elsewhere folder share.device from.View (name, entry) valid))))

  listed_pull : (folder : Folder) (name : FileName) (share : Share) (entry : Entry) → Contains (SharesOf folder) share → get share.pulls name ≡ Some entry → Contains (share_listed folder share) (recorded folder share.device from.Pull (name, entry))
  unfolding share_listed
  listed_pull folder name share entry h has =
      Contains-append_right (Own folder share ++ Nodes folder share ++ Views folder share) (Pulls folder share) (recorded folder share.device from.Pull (name, entry))
      (Contains-image (recorded folder share.device from.Pull) (entries share.pulls) (name, entry) ((entry_stands nat_list_cmp_total exact_bytes share.pulls name entry).0 has))

  -- what is looked up of a device is of its share
  found_in_share : {A : Type 0} (look : Share → Option A) (device : Device) (folder : Folder) (value : A) → option_and_then look (share_of device (SharesOf folder)) ≡ Some value → (share : Share) × Contains (SharesOf folder) share × (share.device ≡ device) × (look share ≡ Some value)
  found_in_share {A} look device folder value e = cases (share_of device (SharesOf folder)) refl e where
    cases : (found : Option Share) → share_of device (SharesOf folder) ≡ found → option_and_then look found ≡ Some value → (share : Share) × Contains (SharesOf folder) share × (share.device ≡ device) × (look share ≡ Some value)
    cases None e none = absurd (cc)
    cases (Some share) e some =
        let gives = find_gives (is_device device) (SharesOf folder) share e in
        (share, gives.0, nat_cmp-IsAntisymmetric share.device device ((Equal-is _).0 gives.1), some)

  -- so it is listed, where it is of each share
  of_share : {A : Type 0} (look : Share → Option A) (device : Device) (folder : Folder) (value : A) (one : Device → Listed) → ((share : Share) → Contains (SharesOf folder) share → look share ≡ Some value → Contains (share_listed folder share) (one share.device)) → option_and_then look (share_of device (SharesOf folder)) ≡ Some value → Contains (cut_listed cut) (one device)
  of_share look device folder value one listed has =
      let found = found_in_share look device folder value has in
      subst (λ d. Contains (cut_listed cut) (one d)) found.2 (listed_in_share folder found.0 _ found.1 (listed found.0 found.1 found.3))

  of_own : (device : Device) (folder : Folder) (name : FileName) (entry : Entry) → (tables_of cut).own device folder name ≡ Some entry → Contains (cut_listed cut) (recorded folder device from.Own (name, entry))
  unfolding tables_of
  of_own device folder name entry =
      of_share (λ share. get share.own name) device folder entry (λ d. recorded folder d from.Own (name, entry)) (λ share. listed_own folder name share entry)

  of_node : (device : Device) (folder : Folder) (name : FileName) (node : NodeParts) → (tables_of cut).node device folder name ≡ Some node → Contains (cut_listed cut) (stored folder device (name, node))
  unfolding tables_of
  of_node device folder name node =
      of_share (λ share. get share.store name) device folder node (λ d. stored folder d (name, node)) (λ share. listed_node folder name share node)

  of_view : (device : Device) (folder : Folder) (name : FileName) (entry : Entry) → IsViewed (tables_of cut) device folder name entry → entry.invalid ≡ false → Contains (cut_listed cut) (recorded folder device from.View (name, entry))
  unfolding tables_of
  of_view device folder name entry viewed valid =
      let found = found_in_share (λ share. option_and_then (λ (view : PeerView). get view.records name) (view_of viewed.0 share.views)) device folder entry viewed.1 in
      let here = subst (λ d. IsViewed (tables_of cut) d folder name entry) (sym found.2) viewed in
      let view = (viewed_is_said cut folder name entry found.0 is_cut found.1).0 here in
      subst (λ d. Contains (cut_listed cut) (recorded folder d from.View (name, entry))) found.2
      (listed_in_share folder found.0 _ found.1 (listed_view folder name found.0 view.0 entry found.1 view.1 view.2 valid))

  of_pull : (device : Device) (folder : Folder) (name : FileName) (entry : Entry) → (tables_of cut).target device folder name ≡ Some entry → Contains (cut_listed cut) (recorded folder device from.Pull (name, entry))
  unfolding tables_of
  of_pull device folder name entry =
      of_share (λ share. get share.pulls name) device folder entry (λ d. recorded folder d from.Pull (name, entry)) (λ share. listed_pull folder name share entry)

  listed_in_link : (link : LinkState) (device : Device) (flight : Flight) (entry : Entry) → Carries link device flight → Contains flight.records entry → entry.invalid ≡ false → Contains (link_listed link) (recorded flight.folder device from.Flight (entry.name, entry))
  unfolding link_listed
  listed_in_link link device flight entry carries has valid = cases carries where
    At : Device → Listed
    At d = recorded flight.folder d from.Flight (entry.name, entry)

    in_flight : (d : Device) → Contains (flight_listed d flight) (At d)
    in_flight d = Contains-flat_map (flying flight.folder d) flight.records entry (At d) has (is_elsewhere flight.folder d from.Flight (entry.name, entry) valid)

    cases : Carries link device flight → Contains (flat_map (flight_listed link.a) link.to_a ++ flat_map (flight_listed link.b) link.to_b) (At device)
    cases (inl to_a) =
        subst (λ d. Contains (flat_map (flight_listed link.a) link.to_a ++ flat_map (flight_listed link.b) link.to_b) (At d)) to_a.0
        (Contains-append_left (flat_map (flight_listed link.a) link.to_a) (flat_map (flight_listed link.b) link.to_b) (At link.a) (Contains-flat_map (flight_listed link.a) link.to_a flight (At link.a) to_a.1 (in_flight link.a)))
    cases (inr to_b) =
        subst (λ d. Contains (flat_map (flight_listed link.a) link.to_a ++ flat_map (flight_listed link.b) link.to_b) (At d)) to_b.0
        (Contains-append_right (flat_map (flight_listed link.a) link.to_a) (flat_map (flight_listed link.b) link.to_b) (At link.b) (Contains-flat_map (flight_listed link.b) link.to_b flight (At link.b) to_b.1 (in_flight link.b)))

  of_flight : (device : Device) (folder : Folder) (name : FileName) (entry : Entry) → IsFlying (tables_of cut) device folder name entry → entry.invalid ≡ false → Contains (cut_listed cut) (recorded folder device from.Flight (name, entry))
  unfolding cut_listed
  of_flight device folder name entry is_flying valid =
      let over = (flying_is_said cut device folder name entry is_cut).0 is_flying in
      let there : Contains (cut_listed cut) (recorded over.1.folder device from.Flight (entry.name, entry)) =
      Contains-append_right (flat_map folder_listed cut.folders) (flat_map link_listed cut.links) (recorded over.1.folder device from.Flight (entry.name, entry))
      (Contains-flat_map link_listed cut.links over.0 (recorded over.1.folder device from.Flight (entry.name, entry)) over.2 (listed_in_link over.0 device over.1 entry over.3 over.4.1 valid)) in
      subst (λ one. Contains (cut_listed cut) one)
      (λ i. record { folder = over.4.0 i; name = over.4.2 i; device = device; holding = Record from.Flight entry }) there

  of_holding : (device : Device) (folder : Folder) (name : FileName) (holding : Holding) → Holds (tables_of cut) device folder name holding → Contains (cut_listed cut) (record { folder = folder; name = name; device = device; holding = holding })
  of_holding device folder name (Record from.Own entry) has = of_own device folder name entry has
  of_holding device folder name (Record from.View entry) has = of_view device folder name entry has.0 has.1
  of_holding device folder name (Record from.Flight entry) has = of_flight device folder name entry has.0 has.1
  of_holding device folder name (Record from.Pull entry) has = of_pull device folder name entry has.0
  of_holding device folder name (Node node) has = of_node device folder name node has

pub entries_are_held : EntriesAreHeld
entries_are_held cut one is_cut = (λ h. (held_there cut is_cut one h).0, λ has. of_holding cut is_cut one.device one.folder one.name one.holding has)

pub holders_share : HoldersShare
holders_share cut one is_cut h = (held_there cut is_cut one h).1
