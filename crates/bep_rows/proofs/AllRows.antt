-- The rows of a stream are those of the cut for which they stand, and it has no other names.
use Rattle.std.proofs.Common.{◌≡◌, ◌≢◌, Bool, true, false, List, [], ◌∷◌, map, Contains, Option, Some, None, refl, sym, ap, subst, ◌∙◌, ⊎_elim}
use Rattle.std.specs.Prelude.{if◌then◌else◌}
use Rattle.std.specs.List.{AllZip}
use Rattle.std.specs.Ordering.{nat_cmp, is_eq}
use Rattle.std.specs.Cmp.{Equal-is}
use Rattle.std.specs.Cmp.Lexicographic.{slice_cmp}
use Rattle.std.specs.FinMap.{empty, get, get-empty}
use Rattle.std.proofs.lemmas.Cmp.{nat_list_cmp_total, tied_itself}
use Rattle.std.proofs.lemmas.Map.Lookups.{exact_bytes}
use Rattle.bep_facts.specs.Maps.{get-insert_here, get-insert_apart}
use Rattle.bep_facts.specs.Members.{not_in_none, Contains-first, Contains-more, Contains-cons_cases}
use Rattle.bep_facts.specs.Orders.{texts_total, texts_exact}
use Rattle.bep_map.specs.NameMap.{ByName}
use Rattle.bep_model.specs.Settled.{key_cmp}
use Rattle.bep_model.specs.Foreign.{IsKnown}
use Rattle.bep_model.specs.Tables.{Tables, Device, Folder, FileName}
use Rattle.bep_parts.specs.Document.{HasKept, IsCutOf, IsFolderOf, IsLinkOf, IsShareOf, IsViewOf}
use Rattle.bep_parts.specs.Laws.{DocumentsSayOnly}
use Rattle.bep_parts.proofs.OnlyFacts.{known_kept}
use Rattle.bep_parts.specs.Parts.{Keeps, flight_of, if_kept}
use Rattle.bep_row.proofs.MakesCut.{alone_at}
use Rattle.bep_row.specs.Fits.{AreQuiet}
use Rattle.bep_row.specs.Row.{alone, cell_in, cell_of, cut_with, folder_with, known_by, node_of, own_of, pull_of, record_at, share_with, view_with}
use Rattle.bep_row.specs.declared.row.DeviceCell.{DeviceCell}
use Rattle.bep_row.specs.declared.row.NameRow.{NameRow}
use Rattle.bep_tables.specs.Cut.{is_folder, tables_of}
use Rattle.bep_tables.specs.declared.cut.CutParts.{CutParts}
use Rattle.bep_tables.specs.declared.link.LinkState.{LinkState}
use Rattle.bep_tables.specs.declared.share.Share.{Share}
use Rattle.bep_tables.specs.declared.share.SharedFolder.{SharedFolder}
use Rattle.bep_rows.specs.AllRows.{NamesAreOfRows, NamesDiffer, NoOtherNames, RowsAreOfTheirCut, cut_by, folder_by, key_of_row, put, said, share_by, view_by}
use Rattle.bep_rows.specs.Names.{Key, among, is_name}

-- ---- a map that rows say

-- nothing is found in rows of other folders
abbrev IsOfFolder : {V : Type 0} → Folder → (NameRow → Option V) → Type 0
IsOfFolder {V} folder find = (row : NameRow) (value : V) → find row ≡ Some value → row.folder ≡ folder

module _ {V : Type 0} (name : FileName) where
  put_here : (found : Option V) (held : ByName V) → get held name ≡ None → get (put name found held) name ≡ found
  put_here None held none = none
  put_here (Some value) held none = get-insert_here nat_list_cmp_total exact_bytes held name value

  put_apart : (found : Option V) (held : ByName V) (other : FileName) → ((value : V) → found ≡ Some value → other ≢ name) → get (put name found held) other ≡ get held other
  put_apart None held other apart = refl
  put_apart (Some value) held other apart = get-insert_apart nat_list_cmp_total exact_bytes held name value other (apart value refl)

module _ {V : Type 0} (folder : Folder) (find : NameRow → Option V) (of_folder : IsOfFolder folder find) where
  none_said : (rows : List NameRow) (name : FileName) → ((row : NameRow) → Contains rows row → key_of_row row ≢ (folder, name)) → get (said find rows) name ≡ None
  none_said [] name others = get-empty (slice_cmp nat_cmp) name
  none_said (row ∷ rows) name others =
      put_apart row.name (find row) (said find rows) name
      (λ value found same. others row (Contains-first row rows) (λ i. (of_folder row value found i, sym same i)))
      ∙ none_said rows name (λ other member. others other (Contains-more row rows other member))

  said_of : (rows : List NameRow) → NamesDiffer rows → (row : NameRow) → Contains rows row → row.folder ≡ folder → get (said find rows) row.name ≡ find row
  said_of [] differ row member same = absurd (not_in_none row member)
  said_of (first ∷ rows) differ row member same =
      ⊎_elim
      (λ is.
      subst (λ (one : NameRow). get (put first.name (find first) (said find rows)) one.name ≡ find one) is
      (put_here first.name (find first) (said find rows)
      (none_said rows first.name
      (λ other there key.
      let here : key_of_row first ≡ (folder, first.name) = λ i. ((ap (λ (one : NameRow). one.folder) is ∙ same) i, first.name) in
      differ.0 other there (here ∙ sym key)))))
      (λ later.
      put_apart first.name (find first) (said find rows) row.name
      (λ value found equal. differ.0 row later (λ i. ((of_folder first value found ∙ sym same) i, sym equal i)))
      ∙ said_of rows differ.1 row later same)
      (Contains-cons_cases first rows row member)

  -- ---- at one row

  alone_apart : (name : FileName) (found : Option V) (other : FileName) → ((value : V) → found ≡ Some value → other ≢ name) → get (alone name found) other ≡ None
  alone_apart name None other apart = get-empty (slice_cmp nat_cmp) other
  alone_apart name (Some value) other apart = get-insert_apart nat_list_cmp_total exact_bytes empty name value other (apart value refl) ∙ get-empty (slice_cmp nat_cmp) other

  row_is_kept : (rows : List NameRow) → NamesDiffer rows → (row : NameRow) → Contains rows row → HasKept (is_name (key_of_row row) folder) (said find rows) (alone row.name (find row))
  row_is_kept rows differ row member name = cases (is_name (key_of_row row) folder name) refl
    where
      cases : (b : Bool) → is_name (key_of_row row) folder name ≡ b → get (alone row.name (find row)) name ≡ if_kept b (get (said find rows) name)
      cases true is =
          let key = texts_exact (key_of_row row) (folder, name) ((Equal-is _).0 is) in
          subst (λ (at : FileName). get (alone row.name (find row)) at ≡ get (said find rows) at) (ap (λ (k : Key). k.1) key)
          (alone_at row.name (find row) ∙ sym (said_of rows differ row member (ap (λ (k : Key). k.0) key)))
      cases false not =
          alone_apart row.name (find row) name
          (λ value found same.
          let tied : is_name (key_of_row row) folder name ≡ true = subst (λ (k : Key). is_eq (key_cmp (key_of_row row) k) ≡ true) (λ i. (of_folder row value found i, sym same i)) (ap is_eq (tied_itself texts_total (key_of_row row))) in
          cc)

  -- ---- at all names

  is_among : (rows : List NameRow) (row : NameRow) → Contains rows row → among (map key_of_row rows) row.folder row.name ≡ true
  is_among [] row member = absurd (not_in_none row member)
  is_among (first ∷ rows) row member = cases (is_among rows row) (among (map key_of_row rows) row.folder row.name) refl
    where
      cases : (Contains rows row → among (map key_of_row rows) row.folder row.name ≡ true) → (b : Bool) → among (map key_of_row rows) row.folder row.name ≡ b → (if b then true else is_name (key_of_row first) row.folder row.name) ≡ true
      cases before true is = refl
      cases before false not =
          ⊎_elim
          (λ same. subst (λ (one : NameRow). is_name (key_of_row first) one.folder one.name ≡ true) same (ap is_eq (tied_itself texts_total (key_of_row first))))
          (λ later. let here = before later in absurd (cc))
          (Contains-cons_cases first rows row member)

  all_kept : (rows : List NameRow) → HasKept (among (map key_of_row rows) folder) (said find rows) (said find rows)
  all_kept rows name = cases (among (map key_of_row rows) folder name) refl
    where
      cases : (b : Bool) → among (map key_of_row rows) folder name ≡ b → get (said find rows) name ≡ if_kept b (get (said find rows) name)
      cases true is = refl
      cases false not =
          none_said rows name
          (λ row member key.
          let here = subst (λ (k : Key). among (map key_of_row rows) k.0 k.1 ≡ true) key (is_among rows row member) in
          cc)

-- ---- cuts

both_mapped : {X Y : Type 0} (R : Y → Y → Type 0) (f g : X → Y) → ((x : X) → R (f x) (g x)) → (xs : List X) → AllZip R (map f xs) (map g xs)
both_mapped R f g related [] = tt
both_mapped R f g related (x ∷ xs) = (related x, both_mapped R f g related xs)

both_same : {X : Type 0} (R : X → X → Type 0) (xs : List X) → ((x : X) → Contains xs x → R x x) → AllZip R xs xs
both_same R [] related = tt
both_same R (x ∷ xs) related = (related x (Contains-first x xs), both_same R xs (λ y member. related y (Contains-more x xs y member)))

-- what is said of a device in a folder is found in rows of that folder alone
of_cell : {V : Type 0} (says : NameRow → Option DeviceCell → Option V) → ((row : NameRow) → says row None ≡ None) → (shared : SharedFolder) (device : Device) → IsOfFolder shared.folder (λ row. says row (cell_in row shared device))
of_cell says nothing shared device row value found = cases (is_folder row.folder shared) refl found
  where
    cases : (b : Bool) → is_folder row.folder shared ≡ b → says row (if b then cell_of row.devices device else None) ≡ Some value → row.folder ≡ shared.folder
    cases true is found_so = sym (exact_bytes shared.folder row.folder ((Equal-is _).0 is))
    cases false not found_so = let e = sym (nothing row) ∙ found_so in absurd (cc)

module _ (keeps : Keeps) where
  -- messages that aren't there are kept
  quiet_links : (links : List LinkState) → AreQuiet links → AllZip (IsLinkOf keeps) links links
  quiet_links links quiet =
      both_same (IsLinkOf keeps) links
      (λ link member. record {
        a = refl;
        b = refl;
        up = refl;
        epoch = refl;
        to_a = (quiet link member).0 ∙ sym (ap (map (flight_of keeps)) (quiet link member).0);
        to_b = (quiet link member).1 ∙ sym (ap (map (flight_of keeps)) (quiet link member).1);
      })

module _ (header : CutParts) (rows : List NameRow) (quiet : AreQuiet header.links) where
  module _ (differ : NamesDiffer rows) (row : NameRow) (member : Contains rows row) where
    kept : {V : Type 0} (shared : SharedFolder) (device : Device) (says : NameRow → Option DeviceCell → Option V) → ((one : NameRow) → says one None ≡ None) →
        HasKept (is_name (key_of_row row) shared.folder) (said (λ one. says one (cell_in one shared device)) rows) (alone row.name (says row (cell_in row shared device)))
    kept shared device says nothing =
        row_is_kept shared.folder (λ one. says one (cell_in one shared device)) (of_cell says nothing shared device) rows differ row member

    row_of_cut : IsCutOf (is_name (key_of_row row)) (cut_by header rows) (cut_with header row)
    unfolding cut_with
    row_of_cut = record {
      folders =
          both_mapped (IsFolderOf (is_name (key_of_row row))) (folder_by rows) (folder_with row)
          (λ shared. record {
            folder = refl;
            shares =
                both_mapped (IsShareOf (is_name (key_of_row row) shared.folder)) (λ (share : Share). share_by (λ one. cell_in one shared share.device) rows share) (λ (share : Share). share_with row (cell_in row shared share.device) share)
                (λ share. record {
                  device = refl;
                  kind = refl;
                  index_id = refl;
                  max_sequence = refl;
                  own = kept shared share.device (λ one cell. record_at one.records (own_of cell)) (λ one. refl);
                  store = kept shared share.device (λ one cell. node_of cell) (λ one. refl);
                  views =
                      both_mapped (IsViewOf (is_name (key_of_row row) shared.folder)) (view_by (λ one. cell_in one shared share.device) rows) (view_with row (cell_in row shared share.device))
                      (λ view. record {
                        of = refl;
                        index_id = refl;
                        max_sequence = refl;
                        records = kept shared share.device (λ one cell. record_at one.records (known_by cell view.of)) (λ one. refl);
                      })
                      share.views;
                  pulls = kept shared share.device (λ one cell. record_at one.records (pull_of cell)) (λ one. refl);
                })
                shared.shares;
          })
          header.folders;
      links = quiet_links (is_name (key_of_row row)) header.links quiet;
    }

  kept_all : {V : Type 0} (shared : SharedFolder) (device : Device) (says : NameRow → Option DeviceCell → Option V) → ((one : NameRow) → says one None ≡ None) →
      HasKept (among (map key_of_row rows) shared.folder) (said (λ one. says one (cell_in one shared device)) rows) (said (λ one. says one (cell_in one shared device)) rows)
  kept_all shared device says nothing = all_kept shared.folder (λ one. says one (cell_in one shared device)) (of_cell says nothing shared device) rows

  no_other_names : IsCutOf (among (map key_of_row rows)) (cut_by header rows) (cut_by header rows)
  no_other_names = record {
    folders =
        both_mapped (IsFolderOf (among (map key_of_row rows))) (folder_by rows) (folder_by rows)
        (λ shared. record {
          folder = refl;
          shares =
              both_mapped (IsShareOf (among (map key_of_row rows) shared.folder)) (λ (share : Share). share_by (λ one. cell_in one shared share.device) rows share) (λ (share : Share). share_by (λ one. cell_in one shared share.device) rows share)
              (λ share. record {
                device = refl;
                kind = refl;
                index_id = refl;
                max_sequence = refl;
                own = kept_all shared share.device (λ one cell. record_at one.records (own_of cell)) (λ one. refl);
                store = kept_all shared share.device (λ one cell. node_of cell) (λ one. refl);
                views =
                    both_mapped (IsViewOf (among (map key_of_row rows) shared.folder)) (view_by (λ one. cell_in one shared share.device) rows) (view_by (λ one. cell_in one shared share.device) rows)
                    (λ view. record {
                      of = refl;
                      index_id = refl;
                      max_sequence = refl;
                      records = kept_all shared share.device (λ one cell. record_at one.records (known_by cell view.of)) (λ one. refl);
                    })
                    share.views;
                pulls = kept_all shared share.device (λ one cell. record_at one.records (pull_of cell)) (λ one. refl);
              })
              shared.shares;
        })
        header.folders;
    links = quiet_links (among (map key_of_row rows)) header.links quiet;
  }

pub rows_are_of_their_cut_lem : RowsAreOfTheirCut
rows_are_of_their_cut_lem header rows row quiet differ member = row_of_cut header rows quiet differ row member

pub no_other_names_lem : NoOtherNames
no_other_names_lem header rows quiet = no_other_names header rows quiet

pub names_are_of_rows_lem : DocumentsSayOnly → NamesAreOfRows
names_are_of_rows_lem say_only header rows quiet folder name known =
    known_kept (among (map key_of_row rows)) (tables_of (cut_by header rows)) folder name
    (subst (λ (t : Tables). IsKnown t folder name) (say_only (among (map key_of_row rows)) (cut_by header rows) (cut_by header rows) (no_other_names header rows quiet)) known)
