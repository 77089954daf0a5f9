-- The cut that has a plain row's name alone is firm.
use Rattle.std.proofs.Common.{◌≡◌, ◌⊎◌, Bool, true, false, ℕ, List, [], ◌∷◌, Contains, Option, Some, None, IsSome, refl, sym, ap, subst, ◌∙◌, inl, ⊎_elim, arith}
use Rattle.std.specs.Prelude.{if◌then◌else◌}
use Rattle.std.specs.Ordering.{nat_cmp, is_eq}
use Rattle.std.specs.Cmp.{Equal-is}
use Rattle.std.specs.Cmp.Lexicographic.{slice_cmp}
use Rattle.std.specs.FinMap.{contains_key, get}
use Rattle.std.proofs.lemmas.Cmp.{nat_list_cmp_total, tied_itself}
use Rattle.std.proofs.lemmas.List.Elements.{Contains-append_left, Contains-append_right}
use Rattle.std.proofs.lemmas.Map.Lookups.{exact_bytes}
use Rattle.bep_facts.specs.Members.{not_in_none, Contains-first, Contains-cons_cases, Contains-from_image, Contains-one}
use Rattle.bep_record.specs.declared.entry.Entry.{Entry}
use Rattle.bep_record.specs.declared.folder_kind.FolderKind.{FolderKind}
use Rattle.bep_record.specs.declared.node.NodeParts.{NodeParts}
use Rattle.bep_record.specs.Content.{content_of}
use Rattle.bep_record.specs.Vector.{IsAtMost}
use Rattle.bep_choice.specs.Choice.{Candidate}
use Rattle.bep_model.specs.declared.row.Row.{Row}
use Rattle.bep_model.specs.Firm.{AreEqual, IsFirm, OwnHasVersion}
use Rattle.bep_model.specs.Foreign.{IsFlying, IsForeign, IsHarmless, IsKnown, IsTarget, IsViewed}
use Rattle.bep_model.specs.Settled.{IsListOfWinners, OwnAgrees, StoreAgrees, key_of}
use Rattle.bep_model.specs.Tables.{Tables, Device, Folder, FileName, Shares}
use Rattle.bep_model.specs.Winner.{IsWinner, beside, own_candidates, owned, smallest}
use Rattle.bep_model.proofs.CutDecided.{SomeChoice}
use Rattle.bep_model.proofs.StaysFacts.{owner_shares}
use Rattle.bep_model.proofs.Winners.{owned_says}
use Rattle.bep_tables.specs.Cut.{IsCut, is_folder, shares_of, tables_of}
use Rattle.bep_tables.specs.Laws.{CutSays, NamesAreKnown}
use Rattle.bep_tables.specs.Names.{known_names}
use Rattle.bep_tables.specs.declared.cut.CutParts.{CutParts}
use Rattle.bep_tables.specs.declared.share.PeerView.{PeerView}
use Rattle.bep_tables.specs.declared.share.Share.{Share}
use Rattle.bep_tables.specs.declared.share.SharedFolder.{SharedFolder}
use Rattle.bep_row.proofs.MakesCut.{alone_at, alone_says, at_place}
use Rattle.bep_row.specs.Fits.{Fits, RowsMakeCuts}
use Rattle.bep_row.specs.Plain.{IsAlike, IsPlain}
use Rattle.bep_row.specs.Row.{alone, cell_in, cell_of, cut_with, folder_with, known_by, node_of, own_of, pull_of, record_at, share_with, view_with}
use Rattle.bep_row.specs.declared.row.DeviceCell.{DeviceCell}
use Rattle.bep_row.specs.declared.row.NameRow.{NameRow}
use Rattle.bep_rows.specs.Plain.{PlainRowsAreFirm}
use Rattle.bep_rows.specs.Standing.{IsJudged, IsUnderWinners}
use Rattle.bep_rows.specs.declared.aim.Aim.{Aim}
use Rattle.bep_rows.specs.declared.aim.Aim.TheVariants as aims
use Rattle.bep_rows.specs.declared.standing.Standing.TheVariants.{Met}
use Rattle.bep_rows.proofs.Kept.{firm_where_unknown}

-- ---- options and lists

value_of : {X : Type 0} (found : Option X) → IsSome found → (x : X) × (found ≡ Some x)
value_of None is = absurd (cc)
value_of (Some x) is = (x, refl)

-- the record at a place is one of the list
placed : (records : List Entry) (place : Option ℕ) (entry : Entry) → record_at records place ≡ Some entry → Contains records entry
placed records None entry is = absurd (cc)
placed records (Some place) entry is = at_place records place entry is

is_beside : (device : Device) (own : Option Entry) (entry : Entry) → own ≡ Some entry → Contains (beside device own) (device, entry)
is_beside device own entry is = subst (λ (o : Option Entry). Contains (beside device o) (device, entry)) (sym is) (Contains-first {X = Candidate} (device, entry) [])

-- a sharing device's own record is a candidate
is_owned : (t : Tables) (folder : Folder) (name : FileName) (shares : List (Device × FolderKind)) (device : Device) (kind : FolderKind) (entry : Entry) → Contains shares (device, kind) → t.own device folder name ≡ Some entry → Contains (owned t folder name shares) (device, entry)
is_owned t folder name [] device kind entry member own = absurd (not_in_none (device, kind) member)
is_owned t folder name (share ∷ more) device kind entry member own =
    ⊎_elim
    (λ same.
    Contains-append_left (beside share.0 (t.own share.0 folder name)) (owned t folder name more) (device, entry)
    (subst (λ (d : Device). Contains (beside d (t.own d folder name)) (device, entry)) (sym (ap (λ (s : Device × FolderKind). s.0) same)) (is_beside device (t.own device folder name) entry own)))
    (λ later.
    Contains-append_right (beside share.0 (t.own share.0 folder name)) (owned t folder name more) (device, entry)
    (is_owned t folder name more device kind entry later own))
    (Contains-cons_cases share more (device, kind) member)

at_most_itself : (v : List (ℕ × ℕ)) → IsAtMost v v
at_most_itself v id = omega arith

module _ (says : CutSays) (header : CutParts) (row : NameRow) (is_cut : IsCut header) (made : IsCut (cut_with header row)) (fits : Fits header row) where
  abbrev cut : CutParts
  cut = cut_with header row

  abbrev t : Tables
  t = tables_of (cut_with header row)

  -- the name is the row's
  abbrev IsHere : Folder → FileName → Type 0
  IsHere folder name = (folder ≡ row.folder) × (name ≡ row.name)

  -- what the cut has of a device is what the header has of it, with what the row says
  record IsShareOf (folder : Folder) (there : Share) : Type 0 where
    pub shared : SharedFolder
    pub listed : Contains header.folders shared
    pub same : shared.folder ≡ folder
    pub share : Share
    pub member : Contains shared.shares share
    pub is : share_with row (cell_in row shared share.device) share ≡ there

  from_share : (folder : Folder) (there : Share) → Contains (shares_of folder cut.folders) there → IsShareOf folder there
  unfolding cut_with
  from_share folder there member =
      let has = says.has_folder (cut_with header row) folder there member in
      let from = Contains-from_image (folder_with row) header.folders has.0 has.1 in
      let found : shares_of has.0.folder (cut_with header row).folders ≡ has.0.shares = says.found (cut_with header row) has.0 made has.1 in
      let here : shares_of folder (cut_with header row).folders ≡ (folder_with row from.0).shares =
      ap (λ (f : Folder). shares_of f (cut_with header row).folders) (sym has.2) ∙ found ∙ ap (λ (s : SharedFolder). s.shares) (sym from.2) in
      let one =
      Contains-from_image (λ (share : Share). share_with row (cell_in row from.0 share.device) share) from.0.shares there
      (subst (λ (shares : List Share). Contains shares there) here member) in
      record { shared = from.0; listed = from.1; same = ap (λ (s : SharedFolder). s.folder) from.2 ∙ has.2; share = one.0; member = one.1; is = one.2 }

  -- the share of a sharing device
  shared_by : (device : Device) (folder : Folder) → Shares t device folder → (there : Share) × Contains (shares_of folder cut.folders) there × (there.device ≡ device)
  shared_by device folder shares = let from = (says.sharing cut folder device shares.0).0 shares.1 in (from.0, from.1, from.2)

  -- what stands at a name in a map of a device, as its cell says, stands at the row's name
  stands_here : {V : Type 0} (look : Option DeviceCell → Option V) → look None ≡ None → (folder : Folder) (name : FileName) (shared : SharedFolder) → shared.folder ≡ folder → (device : Device) (value : V) → get (alone row.name (look (cell_in row shared device))) name ≡ Some value → IsHere folder name
  stands_here {V = V} look none folder name shared same device value is =
      let told = alone_says row.name (look (cell_in row shared device)) name value is in
      (sym same ∙ cases (is_folder row.folder shared) refl told.1, told.0)
    where
      cases : (b : Bool) → is_folder row.folder shared ≡ b → look (if b then cell_of row.devices device else None) ≡ Some value → shared.folder ≡ row.folder
      cases true tied found = exact_bytes shared.folder row.folder ((Equal-is _).0 tied)
      cases false apart found = absurd (let e : ◌≡◌ {A = Option V} None (Some value) = sym none ∙ found in cc)

  -- in the row's folder a device has what its cell says
  cell_here : (shared : SharedFolder) → shared.folder ≡ row.folder → (device : Device) → cell_in row shared device ≡ cell_of row.devices device
  cell_here shared same device =
      let tied : is_folder row.folder shared ≡ true = subst (λ (f : Folder). is_eq (slice_cmp nat_cmp shared.folder f) ≡ true) same (ap is_eq (tied_itself nat_list_cmp_total shared.folder)) in
      ap (λ (b : Bool). if b then cell_of row.devices device else None) tied

  -- a record of a device's stands at the row's name, and is one of the row
  abbrev IsRecordHere : Folder → FileName → Entry → Type 0
  IsRecordHere folder name entry = IsHere folder name × Contains row.records entry

  a_record : (place : Option DeviceCell → Option ℕ) → place None ≡ None → (folder : Folder) (name : FileName) (shared : SharedFolder) → shared.folder ≡ folder → (device : Device) (entry : Entry) → get (alone row.name (record_at row.records (place (cell_in row shared device)))) name ≡ Some entry → IsRecordHere folder name entry
  a_record place none folder name shared same device entry is = (
    stands_here (λ cell. record_at row.records (place cell)) (ap (record_at row.records) none) folder name shared same device entry is,
    placed row.records (place (cell_in row shared device)) entry (alone_says row.name (record_at row.records (place (cell_in row shared device))) name entry is).1,
  )

  own_record : (device : Device) (folder : Folder) (name : FileName) → Shares t device folder → (entry : Entry) → t.own device folder name ≡ Some entry → IsRecordHere folder name entry
  own_record device folder name shares entry own =
      let from = shared_by device folder shares in
      let of = from_share folder from.0 from.1 in
      a_record own_of refl folder name of.shared of.same of.share.device entry
      (ap (λ (s : Share). get s.own name) of.is
      ∙ sym (says.own cut folder name from.0 made from.1)
      ∙ ap (λ (d : Device). t.own d folder name) from.2
      ∙ own)

  viewed_record : (device : Device) (folder : Folder) (name : FileName) → Shares t device folder → (entry : Entry) → IsViewed t device folder name entry → IsRecordHere folder name entry
  viewed_record device folder name shares entry viewed =
      let from = shared_by device folder shares in
      let of = from_share folder from.0 from.1 in
      let seen = (says.viewed cut folder name entry from.0 made from.1).0 (subst (λ (d : Device). IsViewed t d folder name entry) (sym from.2) viewed) in
      let cell = cell_in row of.shared of.share.device in
      let back = Contains-from_image (view_with row cell) of.share.views seen.0 (subst (λ (s : Share). Contains s.views seen.0) (sym of.is) seen.1) in
      a_record (λ (c : Option DeviceCell). known_by c back.0.of) refl folder name of.shared of.same of.share.device entry
      (ap (λ (v : PeerView). get v.records name) back.2 ∙ seen.2)

  target_record : (device : Device) (folder : Folder) (name : FileName) → Shares t device folder → (entry : Entry) → IsTarget t device folder name entry → IsRecordHere folder name entry
  target_record device folder name shares entry target =
      let from = shared_by device folder shares in
      let of = from_share folder from.0 from.1 in
      a_record pull_of refl folder name of.shared of.same of.share.device entry
      (ap (λ (s : Share). get s.pulls name) of.is
      ∙ sym (says.target cut folder name from.0 made from.1)
      ∙ ap (λ (d : Device). t.target d folder name) from.2
      ∙ target)

  nothing_flies : (device : Device) (folder : Folder) (name : FileName) (entry : Entry) → ¬ IsFlying t device folder name entry
  unfolding cut_with
  nothing_flies device folder name entry flying =
      let on_its_way = (says.flying (cut_with header row) device folder name entry made).0 flying in
      let flight = on_its_way.1 in
      let quiet = fits.quiet on_its_way.0 on_its_way.2 in
      ⊎_elim
      (λ to_a. not_in_none flight (subst (λ flights. Contains flights flight) quiet.0 to_a.1))
      (λ to_b. not_in_none flight (subst (λ flights. Contains flights flight) quiet.1 to_b.1))
      on_its_way.3

  foreign_record : (device : Device) (folder : Folder) (name : FileName) → Shares t device folder → (entry : Entry) → IsForeign t device folder name entry → IsRecordHere folder name entry
  foreign_record device folder name shares entry foreign =
      ⊎_elim
      (viewed_record device folder name shares entry)
      (⊎_elim (λ flying. absurd (nothing_flies device folder name entry flying)) (target_record device folder name shares entry))
      foreign.known_by

  node_here : (device : Device) (folder : Folder) (name : FileName) → Shares t device folder → (node : NodeParts) → t.node device folder name ≡ Some node → IsHere folder name
  node_here device folder name shares node held =
      let from = shared_by device folder shares in
      let of = from_share folder from.0 from.1 in
      stands_here node_of refl folder name of.shared of.same of.share.device node
      (ap (λ (s : Share). get s.store name) of.is
      ∙ sym (says.node cut folder name from.0 made from.1)
      ∙ ap (λ (d : Device). t.node d folder name) from.2
      ∙ held)

  -- only the row's name is known
  known_here : (folder : Folder) (name : FileName) → IsKnown t folder name → IsHere folder name
  known_here folder name known =
      let device = known.0 in
      ⊎_elim
      (λ node. let held = value_of (t.node device folder name) node in node_here device folder name known.1 held.0 held.1)
      (⊎_elim
      (λ own. let has = value_of (t.own device folder name) own in (own_record device folder name known.1 has.0 has.1).0)
      (λ foreign. (foreign_record device folder name known.1 foreign.0 foreign.1).0))
      known.2

  module _ (plain : IsPlain header row) where
    -- what a sharing device has of the row's name
    record HasIt (device : Device) (folder : Folder) (name : FileName) : Type 0 where
      pub own : Entry
      pub is : t.own device folder name ≡ Some own
      pub alike : IsAlike plain.first own
      pub agrees : StoreAgrees (t.node device folder name) (t.own device folder name) (content_of plain.first)

    has_it : (device : Device) (folder : Folder) (name : FileName) → Shares t device folder → IsHere folder name → HasIt device folder name
    has_it device folder name shares here =
        let from = shared_by device folder shares in
        let of = from_share folder from.0 from.1 in
        let in_folder : of.shared.folder ≡ row.folder = of.same ∙ here.0 in
        let cell = cell_here of.shared in_folder of.share.device in
        let listed : shares_of row.folder header.folders ≡ of.shared.shares =
        ap (λ (f : Folder). shares_of f header.folders) (sym in_folder) ∙ says.found header of.shared is_cut of.listed in
        let kept = plain.kept of.share (subst (λ (s : List Share). Contains s of.share) (sym listed) of.member) in
        let said = record_at row.records (own_of (cell_of row.devices of.share.device)) in
        let own_is : t.own device folder name ≡ record_at row.records (own_of (cell_of row.devices of.share.device)) =
        ap (λ (d : Device). t.own d folder name) (sym from.2)
        ∙ says.own cut folder name from.0 made from.1
        ∙ ap (λ (s : Share). get s.own name) (sym of.is)
        ∙ ap (λ (n : FileName). get (alone row.name (record_at row.records (own_of (cell_in row of.shared of.share.device)))) n) here.1
        ∙ alone_at row.name (record_at row.records (own_of (cell_in row of.shared of.share.device)))
        ∙ ap (λ (c : Option DeviceCell). record_at row.records (own_of c)) cell in
        let node_is : t.node device folder name ≡ node_of (cell_of row.devices of.share.device) =
        ap (λ (d : Device). t.node d folder name) (sym from.2)
        ∙ says.node cut folder name from.0 made from.1
        ∙ ap (λ (s : Share). get s.store name) (sym of.is)
        ∙ ap (λ (n : FileName). get (alone row.name (node_of (cell_in row of.shared of.share.device))) n) here.1
        ∙ alone_at row.name (node_of (cell_in row of.shared of.share.device))
        ∙ ap node_of cell in
        let own = value_of said kept.there in
        record {
          own = own.0;
          is = own_is ∙ own.1;
          alike = plain.alike own.0 (placed row.records (own_of (cell_of row.devices of.share.device)) own.0 own.1);
          agrees =
              subst (λ (o : Option Entry). StoreAgrees (t.node device folder name) o (content_of plain.first)) (sym own_is)
              (subst (λ (n : Option NodeParts). StoreAgrees n said (content_of plain.first)) (sym node_is) kept.agrees);
        }

    -- ---- under the list of the winners

    module _ (rows : List Row) (winners : IsListOfWinners t rows) where
      -- a row of the list is the row's name, and its record one of the row's
      record IsTheName (one : Row) : Type 0 where
        pub here : IsHere one.folder one.entry.name
        pub alike : IsAlike plain.first one.entry

      the_name : (one : Row) → Contains rows one → IsTheName one
      the_name one member =
          let known = (winners.names one.folder one.entry.name).1 (one, member, refl) in
          let candidate = (winners.winners one member).left.valid.0 in
          let owner = owner_shares t one.folder one.entry.name (t.sharing one.folder) (one.device, one.entry) candidate in
          let held = own_record one.device one.folder one.entry.name owner one.entry (owned_says t one.folder one.entry.name (t.sharing one.folder) (one.device, one.entry) candidate) in
          record { here = known_here one.folder one.entry.name known; alike = plain.alike one.entry held.1 }

      module _ (one : Row) (device : Device) (member : Contains rows one) (shares : Shares t device one.folder) where
        the : IsTheName one
        the = the_name one member

        has : HasIt device one.folder one.entry.name
        has = has_it device one.folder one.entry.name shares the.here

        same_content : (entry : Entry) → IsAlike plain.first entry → content_of entry ≡ content_of one.entry
        same_content entry alike = alike.content ∙ sym the.alike.content

        same_version : (entry : Entry) → IsAlike plain.first entry → entry.version ≡ one.entry.version
        same_version entry alike = alike.version ∙ sym the.alike.version

        foreign_alike : (entry : Entry) → IsForeign t device one.folder one.entry.name entry → IsAlike plain.first entry
        foreign_alike entry foreign = plain.alike entry (foreign_record device one.folder one.entry.name shares entry foreign).1

        own_agrees : OwnAgrees (t.own device one.folder one.entry.name) (content_of one.entry)
        own_agrees = subst (λ (o : Option Entry). OwnAgrees o (content_of one.entry)) (sym has.is) (has.alike.valid, same_content has.own has.alike)

        store_agrees : StoreAgrees (t.node device one.folder one.entry.name) (t.own device one.folder one.entry.name) (content_of one.entry)
        store_agrees = subst (StoreAgrees (t.node device one.folder one.entry.name) (t.own device one.folder one.entry.name)) (sym the.alike.content) has.agrees

        harmless : (entry : Entry) → IsForeign t device one.folder one.entry.name entry → IsHarmless (t.own device one.folder one.entry.name) (content_of one.entry) entry
        harmless entry foreign = subst (λ (o : Option Entry). IsHarmless o (content_of one.entry) entry) (sym has.is) (inl (same_content entry (foreign_alike entry foreign)))

        own_version : OwnHasVersion (t.own device one.folder one.entry.name) one.entry.version
        own_version =
            subst (λ (o : Option Entry). OwnHasVersion o one.entry.version) (sym has.is)
            (subst (AreEqual has.own.version) (same_version has.own has.alike) (at_most_itself has.own.version, at_most_itself has.own.version))

        foreign_version : (entry : Entry) → IsForeign t device one.folder one.entry.name entry → IsAtMost entry.version one.entry.version
        foreign_version entry foreign = subst (IsAtMost entry.version) (same_version entry (foreign_alike entry foreign)) (at_most_itself entry.version)

      is_firm_so : IsFirm t rows
      is_firm_so = record {
        settled = record {
          certificate = winners;
          own = λ one device member shares. own_agrees one device member shares;
          store = λ one device member shares. store_agrees one device member shares;
          foreign = λ one device member shares. harmless one device member shares;
        };
        own = λ one device member shares. own_version one device member shares;
        foreign = λ one device member shares. foreign_version one device member shares;
      }

    -- ---- the list of the winners

    -- a row of the row's name has its key
    is_the_key : (one other : Row) (folder : Folder) (name : FileName) → one.folder ≡ row.folder → one.entry.name ≡ row.name → one ≡ other → key_of other ≡ (folder, name) → ◌≡◌ {A = Folder × FileName} (row.folder, row.name) (folder, name)
    is_the_key one other folder name in_folder named same is = (λ i. (sym in_folder i, sym named i)) ∙ ap key_of same ∙ is

    record AreFirmWinners (rows : List Row) : Type 0 where
      pub winners : IsListOfWinners t rows
      pub is_firm : IsFirm t rows

    -- where the name is known it has a winner
    one_row : SomeChoice → IsKnown t row.folder row.name → (rows : List Row) × AreFirmWinners rows
    one_row some_choice known =
        let F = row.folder in
        let N = row.name in
        let device = known.0 in
        let has = has_it device F N known.1 (refl, refl) in
        let candidate = is_owned t F N (t.sharing F) device known.1.0 has.own known.1.1 has.is in
        let best = some_choice (smallest (t.sharing F)) (own_candidates t F N) ((device, has.own), (candidate, has.alike.valid)) in
        let owner = owner_shares t F N (t.sharing F) best.0 best.1.left.valid.0 in
        let held = own_record best.0.0 F N owner best.0.1 (owned_says t F N (t.sharing F) best.0 best.1.left.valid.0) in
        let named : best.0.1.name ≡ N = fits.named best.0.1 held.1 in
        let one : Row = record { folder = row.folder; device = best.0.0; entry = best.0.1 } in
        let list : IsListOfWinners t (one ∷ []) = record {
          rise = tt;
          names = λ folder name. (
            λ is. let here = known_here folder name is in (one, Contains-first one [], λ i. (sym here.0 i, (named ∙ sym here.1) i)),
            λ of. subst (λ (k : Folder × FileName). IsKnown t k.0 k.1) (is_the_key one of.0 folder name refl named (Contains-one one of.0 of.1) of.2) known,
          );
          winners = λ other member.
              subst (λ (r : Row). IsWinner t r.folder r.entry.name (r.device, r.entry)) (Contains-one one other member)
              (subst (λ (n : FileName). IsWinner t row.folder n best.0) (sym named) best.1);
        } in
        (one ∷ [], record { winners = list; is_firm = is_firm_so (one ∷ []) list })

    -- and else there is no name
    no_row : ¬ IsKnown t row.folder row.name → (rows : List Row) × AreFirmWinners rows
    no_row unknown =
        let none = firm_where_unknown t (λ folder name known.
        let here = known_here folder name known in
        unknown (subst (λ (k : Folder × FileName). IsKnown t k.0 k.1) (λ i. (here.0 i, here.1 i)) known)) in
        ([], record { winners = none.settled.certificate; is_firm = none })

    all_rows : SomeChoice → NamesAreKnown → (rows : List Row) × AreFirmWinners rows
    all_rows some_choice names = cases (contains_key (known_names cut row.folder) row.name) refl
      where
        cases : (b : Bool) → contains_key (known_names cut row.folder) row.name ≡ b → (rows : List Row) × AreFirmWinners rows
        cases true held = one_row some_choice ((names cut row.folder row.name made).0 held)
        cases false none = no_row (λ known. let held = (names cut row.folder row.name made).1 known in absurd (cc))

    firm_judged : (aim : Aim) (rows : List Row) → IsFirm t rows → IsJudged aim t rows Met
    firm_judged aims.Settled rows is = is.settled
    firm_judged aims.Firm rows is = is

    plain_stands : SomeChoice → NamesAreKnown → (aim : Aim) → IsUnderWinners aim t Met
    plain_stands some_choice names aim =
        let found = all_rows some_choice names in
        record { rows = found.0; winners = found.1.winners; judged = firm_judged aim found.0 found.1.is_firm }

pub plain_rows_are_firm_lem : CutSays → NamesAreKnown → RowsMakeCuts → SomeChoice → PlainRowsAreFirm
plain_rows_are_firm_lem says names make some_choice header row is_cut fits plain aim =
    plain_stands says header row is_cut (make header row is_cut fits) fits plain some_choice names aim
