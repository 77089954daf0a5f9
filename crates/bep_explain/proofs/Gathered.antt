-- What the rows and the names of a cut say of failures, all together, is what the reasons ask.
use Rattle.std.proofs.Common.{◌≡◌, ◌↔◌, List, Contains, map, Option, Some, None, IsSome, refl, sym, ap, subst, ⊎_elim, arith}
use Rattle.std.specs.declared.cmp.Ordering.TheVariants.{Equal}
use Rattle.std.specs.Ordering.{is_eq}
use Rattle.std.specs.Cmp.{Equal-is}
use Rattle.std.proofs.lemmas.Cmp.{tied_itself}
use Rattle.bep_facts.specs.Members.{Contains-image, Contains-from_image}
use Rattle.bep_facts.specs.Orders.{texts_total, texts_exact}
use Rattle.bep_record.specs.declared.entry.Entry.{Entry}
use Rattle.bep_model.specs.declared.row.Row.{Row}
use Rattle.bep_model.specs.declared.reason.Reason.{Reason}
use Rattle.bep_model.specs.declared.reason.Reason.TheVariants.{CertificateOrder, NameMissing, NameUnknown, NotWinner, RecordMissing, RecordDiffers, LocalOnly, StoreDiffers, StoreUnclean, ViewAhead, FlightAhead, PullAhead}
use Rattle.bep_model.specs.Tables.{Tables, Device, Folder, FileName}
use Rattle.bep_model.specs.Foreign.{HasTrace, IsForeign, IsKnown}
use Rattle.bep_model.specs.Winner.{IsWinner}
use Rattle.bep_model.specs.Settled.{key_of, key_cmp}
use Rattle.bep_model.specs.Reasons.{AsksAt, AsksShare}
use Rattle.bep_tables.specs.declared.cut.CutParts.{CutParts}
use Rattle.bep_tables.specs.declared.table.entry.Source.TheVariants.{Own, View, Flight, Pull}
use Rattle.bep_tables.specs.declared.table.entry.TableEntry.{TableEntry}
use Rattle.bep_tables.specs.Cut.{IsCut, shares_of, tables_of}
use Rattle.bep_tables.specs.Laws.{SharingIsSaid}
use Rattle.bep_tables.specs.Kept.{kept, from_kept}
use Rattle.bep_tables.specs.Listed.{Holding, Record, Node, Listed, key_at, listed, cut_listed, is_of, group_of, IsGrouped}
use Rattle.bep_tables.specs.Said.{Holds, EntriesAreHeld, HoldersShare}
use Rattle.bep_audit.specs.declared.checkers.TheConstants.{REASONS}
use Rattle.bep_audit.specs.Group.{IsGroupOf, GroupIsKnown}
use Rattle.bep_audit.specs.Grouped.{same_group_same}
use Rattle.bep_audit.specs.Walk.{Failure}
use Rattle.bep_gather.specs.Adding.{Each}
use Rattle.bep_explain.specs.Found.{IsMet}
use Rattle.bep_explain.specs.inner.Says.{failure_at, NameHasRow, SaysOrder, SaysEntry, SaysHasRow, SaysAtRow}

-- each reason is one of all
is_a_reason : (reason : Reason) → Contains REASONS reason
is_a_reason CertificateOrder = (0, omega arith, refl)
is_a_reason NameMissing = (1, omega arith, refl)
is_a_reason NameUnknown = (2, omega arith, refl)
is_a_reason NotWinner = (3, omega arith, refl)
is_a_reason RecordMissing = (4, omega arith, refl)
is_a_reason RecordDiffers = (5, omega arith, refl)
is_a_reason LocalOnly = (6, omega arith, refl)
is_a_reason StoreDiffers = (7, omega arith, refl)
is_a_reason StoreUnclean = (8, omega arith, refl)
is_a_reason ViewAhead = (9, omega arith, refl)
is_a_reason FlightAhead = (10, omega arith, refl)
is_a_reason PullAhead = (11, omega arith, refl)

there_is : {X : Type 0} (found : Option X) → IsSome found → (x : X) × (found ≡ Some x)
there_is None some = absurd (cc)
there_is (Some x) some = (x, refl)

module _ (cut : CutParts) (is_cut : IsCut cut) (rows : List Row) (entries : List TableEntry) where
  abbrev t : Tables
  t = tables_of cut

  -- what all say
  abbrev pub AllSay : Failure → Type 0
  AllSay one = (SaysOrder rows one × Each (SaysEntry t rows) entries one) × Each (SaysAtRow cut) rows one

  -- ---- a known name has an entry

  module _ (held : EntriesAreHeld) (grouped : IsGrouped (cut_listed cut) entries) (folder : Folder) (name : FileName) where
    abbrev HasEntry : Type 0
    HasEntry = (entry : TableEntry) × Contains entries entry × (key_at (listed entry) ≡ (folder, name))

    entry_of : (device : Device) (holding : Holding) → Holds t device folder name holding → HasEntry
    entry_of device holding holds =
        let one : Listed = record { folder = folder; name = name; device = device; holding = holding } in
        let there = same_group_same one (cut_listed cut) (map listed entries) (sym (grouped.groups (folder, name))) ((held cut one is_cut).1 holds) in
        let found = Contains-from_image listed entries one there in
        (found.0, found.1, ap key_at found.2)

    entry_of_foreign : (device : Device) (entry : Entry) → IsForeign t device folder name entry → HasEntry
    entry_of_foreign device entry foreign =
        ⊎_elim
        (λ viewed. entry_of device (Record View entry) (viewed, foreign.valid))
        (⊎_elim (λ flying. entry_of device (Record Flight entry) (flying, foreign.valid)) (λ target. entry_of device (Record Pull entry) (target, foreign.valid)))
        foreign.known_by

    entry_of_trace : (device : Device) → HasTrace t device folder name → HasEntry
    entry_of_trace device trace =
        ⊎_elim
        (λ node. let is = there_is (t.node device folder name) node in entry_of device (Node is.0) is.1)
        (⊎_elim
        (λ own. let is = there_is (t.own device folder name) own in entry_of device (Record Own is.0) is.1)
        (λ foreign. entry_of_foreign device foreign.0 foreign.1))
        trace

    pub has_entry : IsKnown t folder name → HasEntry
    has_entry known = entry_of_trace known.0 known.2

  -- ---- what all say is what is asked

  module _ (sharing : SharingIsSaid) (held : EntriesAreHeld) (grouped : IsGrouped (cut_listed cut) entries) where
    met : (reason : Reason) (folder : Folder) (name : FileName) (device : Option Device) → AllSay (failure_at reason (folder, name) device) → AsksAt t rows reason folder name device
    met reason folder name (Some device) all = λ row member key shares.
        let sharer = (sharing cut folder device shares.0).0 shares.1 in
        let share = sharer.0 in
        let there : Contains (shares_of row.folder cut.folders) share = subst (λ (f : Folder). Contains (shares_of f cut.folders) share) (sym (ap (λ k. k.0) key)) sharer.1 in
        let same = sharer.2 in
        let says = (all.1 row member).devices share there reason (is_a_reason reason) (λ i. failure_at reason (sym key i) (Some (sym same i))) in
        subst (λ (d : Device). AsksShare t reason row d) same says
    met CertificateOrder folder name None all = λ first. all.0.0 (folder, name) first refl
    met NameMissing folder name None all = λ known.
        let entry = has_entry held grouped folder name known in
        subst (NameHasRow t rows) entry.2 (all.0.1 entry.0 entry.1 (λ i. failure_at NameMissing (sym entry.2 i) None)) known
    met NameUnknown folder name None all = λ has.
        subst (λ (k : Folder × FileName). IsKnown t k.0 k.1) has.2 ((all.1 has.0 has.1).known (λ i. failure_at NameUnknown (sym has.2 i) None))
    met NotWinner folder name None all = λ row member key.
        subst (λ (k : Folder × FileName). IsWinner t k.0 k.1 (row.device, row.entry)) key ((all.1 row member).winner (λ i. failure_at NotWinner (sym key i) None))
    met _ folder name None all = tt

    said : (one : Failure) → IsMet t rows one → AllSay one
    said one asked =
        let at : (other : Failure) → one ≡ other → IsMet t rows other = λ other same. subst (IsMet t rows) same asked in (
          (
            λ key first same. at (failure_at CertificateOrder key None) same first,
            λ entry member same. at (failure_at NameMissing (key_at (listed entry)) None) same,
          ),
          λ row member. record {
            known = λ same. at (failure_at NameUnknown (key_of row) None) same (row, member, refl);
            winner = λ same. at (failure_at NotWinner (key_of row) None) same row member refl;
            devices = λ share there reason any same.
                at (failure_at reason (key_of row) (Some share.device)) same row member refl
                (share.kind, (sharing cut row.folder share.device share.kind).1 (share, there, refl, refl));
          },
        )

    pub said_exactly : (one : Failure) → AllSay one ↔ IsMet t rows one
    said_exactly one = (λ all. met one.reason one.place.folder one.place.name one.place.device all, λ asked. said one asked)

-- ---- the same of rows that are sorted by their names
module _ (cut : CutParts) (is_cut : IsCut cut) (rows : List Row) (entries : List TableEntry) (sorted : List Row) where
  -- what all say, where each entry's name is known
  abbrev pub SortedSay : Failure → Type 0
  SortedSay one = (SaysOrder rows one × Each (SaysHasRow sorted) entries one) × Each (SaysAtRow cut) sorted one

  module _ (same : (row : Row) → Contains sorted row ↔ Contains rows row) (held : EntriesAreHeld) (shares : HoldersShare) (known : GroupIsKnown) (grouped : IsGrouped (cut_listed cut) entries) where
    -- an entry's name is known
    entry_is_known : (entry : TableEntry) → Contains entries entry → IsKnown (tables_of cut) (key_at (listed entry)).0 (key_at (listed entry)).1
    entry_is_known entry member =
        let one = listed entry in
        let there = same_group_same one (map listed entries) (cut_listed cut) (grouped.groups (key_at one)) (Contains-image listed entries entry member) in
        (known cut (key_at one) (group_of (key_at one) (cut_listed cut)) is_cut (group_is_of (key_at one))).0 (one, kept (is_of (key_at one)) (cut_listed cut) one there (ap is_eq (tied_itself texts_total (key_at one))))
      where
        group_is_of : (key : Folder × FileName) → IsGroupOf cut key (group_of key (cut_listed cut))
        group_is_of key one = (
          λ member. let both = from_kept (is_of key) (cut_listed cut) one member in (both.0, texts_exact (key_at one) key ((Equal-is (key_cmp (key_at one) key)).0 both.1)),
          λ both. kept (is_of key) (cut_listed cut) one both.0 (ap is_eq (subst (λ (k : Folder × FileName). key_cmp (key_at one) k ≡ Equal) both.1 (tied_itself texts_total (key_at one)))),
        )

    has_row_exactly : (entry : TableEntry) → Contains entries entry → (one : Failure) → SaysHasRow sorted entry one ↔ SaysEntry (tables_of cut) rows entry one
    has_row_exactly entry member one = (
      λ says at _. let has = says at in (has.0, (same has.0).0 has.1, has.2),
      λ says at. let has = says at (entry_is_known entry member) in (has.0, (same has.0).1 has.1, has.2),
    )

    pub sorted_exactly : SharingIsSaid → (one : Failure) → SortedSay one ↔ IsMet (tables_of cut) rows one
    sorted_exactly sharing one =
        let exactly = said_exactly cut is_cut rows entries sharing held grouped one in (
          λ all. exactly.0 ((all.0.0, λ entry member. (has_row_exactly entry member one).0 (all.0.1 entry member)), λ row member. all.1 row ((same row).1 member)),
          λ met.
              let all = exactly.1 met in
              ((all.0.0, λ entry member. (has_row_exactly entry member one).1 (all.0.1 entry member)), λ row member. all.1 row ((same row).0 member)),
        )
