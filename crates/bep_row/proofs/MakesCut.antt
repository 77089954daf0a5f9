-- The cut that has a row's name alone is a cut.
use Rattle.std.proofs.Common.{◌≡◌, ◌≢◌, ◌≤◌, ℕ, zero, suc, Bool, true, false, List, [], ◌∷◌, map, All, Contains, Option, Some, None, refl, sym, ap, subst, ◌∙◌, ⊎_elim, arith}
use Rattle.std.specs.Prelude.{slice_get, if◌then◌else◌}
use Rattle.std.specs.Ordering.{nat_cmp}
use Rattle.std.specs.Cmp.{Equal-is}
use Rattle.std.specs.Cmp.Lexicographic.{slice_cmp}
use Rattle.std.specs.List.Sorted.{IsStrictlyIncreasing, IsStrictlySortedBy}
use Rattle.std.specs.FinMap.{empty, get, get-empty, len, len-empty}
use Rattle.std.proofs.lemmas.Cmp.{nat_list_cmp_total}
use Rattle.std.proofs.lemmas.List.{length-map}
use Rattle.std.proofs.lemmas.List.Elements.{All-contains, All-contains_itself, All-map, All-nil, All-same, All-weaker}
use Rattle.std.proofs.lemmas.Map.Lookups.{exact_bytes}
use Rattle.bep_facts.specs.Maps.{found_after_insert, get-insert_here, len-insert_le, nothing_in_empty}
use Rattle.bep_facts.specs.Members.{Contains-first, Contains-more, Contains-image, Contains-from_image}
use Rattle.bep_record.specs.declared.entry.Entry.{Entry}
use Rattle.bep_record.specs.declared.limits.TheConstants.{MAX_PULLS}
use Rattle.bep_index.specs.Index.{IsIndex}
use Rattle.bep_index.specs.declared.limits.TheConstants.{MAX_NAMES, MAX_SEQUENCE}
use Rattle.bep_model.specs.Tables.{Device, Folder, FileName}
use Rattle.bep_tables.specs.declared.cut.CutParts.{CutParts}
use Rattle.bep_tables.specs.declared.link.LinkState.{LinkState}
use Rattle.bep_tables.specs.declared.share.PeerView.{PeerView}
use Rattle.bep_tables.specs.declared.share.Share.{Share}
use Rattle.bep_tables.specs.declared.share.SharedFolder.{SharedFolder}
use Rattle.bep_tables.specs.Cut.{ArePulls, AreShares, AreViews, HasDevice, HasPoint, IsCut, IsFlight, IsLink, devices_of, index_of, is_folder, known_of, shares_of}
use Rattle.bep_tables.specs.Laws.{FolderIsFound}
use Rattle.bep_row.specs.declared.row.DeviceCell.{DeviceCell}
use Rattle.bep_row.specs.declared.row.NameRow.{NameRow}
use Rattle.bep_row.specs.Fits.{AreNamed, AreViewsFit, Fits, IsNumbered, IsShareFit, RowsMakeCuts}
use Rattle.bep_row.specs.Row.{alone, cell_in, cell_of, cut_with, folder_with, record_at, share_with, view_with}

-- ---- a map with one name

module _ {V : Type 0} where
  pub alone_says : (name : FileName) (found : Option V) (at : FileName) (value : V) → get (alone name found) at ≡ Some value → (at ≡ name) × (found ≡ Some value)
  alone_says name None at value is = nothing_in_empty (slice_cmp nat_cmp) at value is
  alone_says name (Some held) at value is =
      ⊎_elim
      (λ here. (here.0, ap (λ (v : V). Some v) (sym here.1)))
      (λ there. nothing_in_empty (slice_cmp nat_cmp) at value there.1)
      (found_after_insert nat_list_cmp_total exact_bytes empty name held at value is)

  pub alone_at : (name : FileName) (found : Option V) → get (alone name found) name ≡ found
  alone_at name None = get-empty (slice_cmp nat_cmp) name
  alone_at name (Some value) = get-insert_here nat_list_cmp_total exact_bytes empty name value

  few_alone : (name : FileName) (found : Option V) (most : ℕ) → 1 ≤ most → len (alone name found) ≤ most
  few_alone name None most room = let none = len-empty (slice_cmp nat_cmp) V in omega (arith, none)
  few_alone name (Some held) most room =
      let none = len-empty (slice_cmp nat_cmp) V in
      len-insert_le nat_list_cmp_total empty name held most (omega (arith, none)) (λ _. omega (arith, none))

pub at_place : {X : Type 0} (xs : List X) (place : ℕ) (x : X) → slice_get xs place ≡ Some x → Contains xs x
at_place [] place x is = absurd (cc)
at_place (first ∷ more) zero x is = let same : first ≡ x = cc in subst (Contains (first ∷ more)) same (Contains-first first more)
at_place (first ∷ more) (suc place) x is = Contains-more first more x (at_place more place x is)

-- what holds of each image holds of all
of_each : {X Y : Type 0} (P : Y → Type 0) (f : X → Y) (xs : List X) → ((x : X) → Contains xs x → P (f x)) → All P (map f xs)
of_each P f xs holds = All-map P f xs (All-weaker (Contains xs) (λ x. P (f x)) holds xs (All-contains_itself xs))

-- a key that images keep
same_keys : {X K : Type 0} (key : X → K) (f : X → X) → ((x : X) → key (f x) ≡ key x) → (xs : List X) → map key (map f xs) ≡ map key xs
same_keys key f same [] = refl
same_keys key f same (x ∷ xs) = λ i. same x i ∷ same_keys key f same xs i

-- an index with one name
is_index : (id sequence : ℕ) (name : FileName) (found : Option Entry) → sequence ≤ MAX_SEQUENCE → ((entry : Entry) → found ≡ Some entry → (entry.name ≡ name) × IsNumbered sequence entry.sequence) → IsIndex (record { id = id; sequence = sequence; records = alone name found })
is_index id sequence name found within says = record {
  sequence = within;
  few = few_alone name found MAX_NAMES (omega arith);
  numbered = λ at entry is.
      let here = alone_says name found at entry is in
      let told = says entry here.1 in
      (told.0 ∙ sym here.0, told.1.0, told.1.1);
  distinct = λ at other entry more is also same. (alone_says name found at entry is).0 ∙ sym (alone_says name found other more also).0;
}

module _ (row : NameRow) (named : AreNamed row.name row.records) where
  name_at : (place : Option ℕ) (entry : Entry) → record_at row.records place ≡ Some entry → entry.name ≡ row.name
  name_at None entry is = absurd (cc)
  name_at (Some place) entry is = named entry (at_place row.records place entry is)

  pulls_are : (found : Option ℕ) → ((entry : Entry) → record_at row.records found ≡ Some entry → (entry.invalid ≡ false) × (entry.sequence ≤ MAX_SEQUENCE)) → ArePulls (alone row.name (record_at row.records found))
  pulls_are found fit = record {
    few = few_alone row.name (record_at row.records found) MAX_PULLS (omega arith);
    named = λ at entry is.
        let here = alone_says row.name (record_at row.records found) at entry is in
        (name_at found entry here.1 ∙ sym here.0, (fit entry here.1).0);
    within = λ at entry is. (fit entry (alone_says row.name (record_at row.records found) at entry is).1).1;
  }

  -- ---- a device

  views_are : (cell : Option DeviceCell) (devices : List Device) (device : Device) (views : List PeerView) → AreViews devices device views → AreViewsFit row cell views → AreViews devices device (map (view_with row cell) views)
  views_are cell devices device views are fit = record {
    rise = subst IsStrictlyIncreasing (sym (same_keys (λ (view : PeerView). view.of) (view_with row cell) (λ view. refl) views)) are.rise;
    others = All-map (λ (view : PeerView). (view.of ≢ device) × Contains devices view.of) (view_with row cell) views are.others;
    indexes =
        of_each (λ (view : PeerView). IsIndex (known_of view)) (view_with row cell) views
        (λ view member.
        is_index view.index_id view.max_sequence row.name _ (All-contains (λ (v : PeerView). IsIndex (known_of v)) views view are.indexes member).sequence
        (λ entry is. (name_at _ entry is, fit view member entry is)));
    known = All-map HasPoint (view_with row cell) views are.known;
  }

  module _ (cell : Device → Option DeviceCell) (shares : List Share) (are : AreShares shares) (fit : (share : Share) → Contains shares share → IsShareFit row (cell share.device) share) where
    abbrev with_row : Share → Share
    with_row share = share_with row (cell share.device) share

    same_devices : devices_of (map with_row shares) ≡ devices_of shares
    same_devices = same_keys (λ (share : Share). share.device) with_row (λ share. refl) shares

    shares_are : AreShares (map with_row shares)
    shares_are = record {
      rise = subst IsStrictlyIncreasing (sym same_devices) are.rise;
      indexes =
          of_each (λ (share : Share). IsIndex (index_of share)) with_row shares
          (λ share member.
          is_index share.index_id share.max_sequence row.name _ (All-contains (λ (s : Share). IsIndex (index_of s)) shares share are.indexes member).sequence
          (λ entry is. (name_at _ entry is, (fit share member).own entry is)));
      views =
          of_each (λ (share : Share). AreViews (devices_of (map with_row shares)) share.device share.views) with_row shares
          (λ share member.
          subst (λ (devices : List Device). AreViews devices share.device (map (view_with row (cell share.device)) share.views)) (sym same_devices)
          (views_are (cell share.device) (devices_of shares) share.device share.views (All-contains (λ (s : Share). AreViews (devices_of shares) s.device s.views) shares share are.views member) (fit share member).views));
      pulls = of_each (λ (share : Share). ArePulls share.pulls) with_row shares (λ share member. pulls_are _ (fit share member).pull);
    }

-- ---- the cut

-- of a device that the row doesn't speak of nothing is asked
nothing_fits : (row : NameRow) (share : Share) → IsShareFit row None share
nothing_fits row share = record {
  own = λ entry is. absurd (let e : ◌≡◌ {A = Option Entry} None (Some entry) = is in cc);
  views = λ view member entry is. absurd (let e : ◌≡◌ {A = Option Entry} None (Some entry) = is in cc);
  pull = λ entry is. absurd (let e : ◌≡◌ {A = Option Entry} None (Some entry) = is in cc);
}

module _ (found : FolderIsFound) (header : CutParts) (row : NameRow) (is_cut : IsCut header) (fits : Fits header row) where
  fit_in : (shared : SharedFolder) → Contains header.folders shared → (share : Share) → Contains shared.shares share → IsShareFit row (cell_in row shared share.device) share
  fit_in shared there share member = cases (is_folder row.folder shared) refl
    where
      cases : (b : Bool) → is_folder row.folder shared ≡ b → IsShareFit row (if b then cell_of row.devices share.device else None) share
      cases true is =
          let same = exact_bytes shared.folder row.folder ((Equal-is _).0 is) in
          let here : shares_of row.folder header.folders ≡ shared.shares = ap (λ (folder : Folder). shares_of folder header.folders) (sym same) ∙ found header shared is_cut there in
          fits.shares share (subst (λ (shares : List Share). Contains shares share) (sym here) member)
      cases false is = nothing_fits row share

  abbrev folders : List SharedFolder
  folders = map (folder_with row) header.folders

  devices_in : (shared : SharedFolder) → devices_of (folder_with row shared).shares ≡ devices_of shared.shares
  devices_in shared = same_keys (λ (share : Share). share.device) (λ (share : Share). share_with row (cell_in row shared share.device) share) (λ share. refl) shared.shares

  device_there : (device : Device) → HasDevice header.folders device → HasDevice folders device
  device_there device has = (
    folder_with row has.0,
    Contains-image (folder_with row) header.folders has.0 has.1,
    subst (λ (devices : List Device). Contains devices device) (sym (devices_in has.0)) has.2,
  )

  device_back : (device : Device) → HasDevice folders device → HasDevice header.folders device
  device_back device has =
      let from = Contains-from_image (folder_with row) header.folders has.0 has.1 in (
        from.0,
        from.1,
        subst (λ (devices : List Device). Contains devices device) (devices_in from.0)
            (subst (λ (shared : SharedFolder). Contains (devices_of shared.shares) device) (sym from.2) has.2),
      )

  link_is : (link : LinkState) → Contains header.links link → IsLink folders link
  link_is link member =
      let old = All-contains (IsLink header.folders) header.links link is_cut.links member in
      let quiet = fits.quiet link member in
      record {
        ends = old.ends;
        a_device = device_there link.a old.a_device;
        b_device = device_there link.b old.b_device;
        epoch = old.epoch;
        quiet = old.quiet;
        few_to_a = old.few_to_a;
        few_to_b = old.few_to_b;
        to_a = All-same (IsFlight folders link.a link.b) link.to_a [] quiet.0 (All-nil (IsFlight folders link.a link.b));
        to_b = All-same (IsFlight folders link.a link.b) link.to_b [] quiet.1 (All-nil (IsFlight folders link.a link.b));
      }

  made_is_cut : IsCut (cut_with header row)
  unfolding cut_with
  made_is_cut = record {
    rise = subst (IsStrictlySortedBy (slice_cmp nat_cmp)) (sym (same_keys (λ (shared : SharedFolder). shared.folder) (folder_with row) (λ shared. refl) header.folders)) is_cut.rise;
    shares =
        of_each (λ (shared : SharedFolder). AreShares shared.shares) (folder_with row) header.folders
        (λ shared member. shares_are row fits.named (cell_in row shared) shared.shares (All-contains (λ (s : SharedFolder). AreShares s.shares) header.folders shared is_cut.shares member) (fit_in shared member));
    few_folders = let same = length-map header.folders (folder_with row) in let few = is_cut.few_folders in omega (arith, same, few);
    few_devices = λ devices rise all. is_cut.few_devices devices rise (All-weaker (HasDevice folders) (HasDevice header.folders) device_back devices all);
    links_rise = is_cut.links_rise;
    links = All-weaker (Contains header.links) (IsLink folders) link_is header.links (All-contains_itself header.links);
  }

pub rows_make_cuts_lem : FolderIsFound → RowsMakeCuts
rows_make_cuts_lem found header row is_cut fits = made_is_cut found header row is_cut fits
