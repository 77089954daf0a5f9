-- What the entries of a cut are asked is what the four reasons ask; the least that is asked in vain is the verdict.
use Rattle.std.proofs.Common.{◌≡◌, ◌≢◌, ◌↔◌, IsTrue, Bool, true, ℕ, ◌+◌, ◌<◌, ◌≤◌, List, [], ◌∷◌, ◌++◌, cond, length, get_or, take, Contains, Option, Some, None, map, refl, sym, ap, subst, ◌∙◌, ⊎_elim}
use Rattle.std.specs.declared.cmp.Ordering.{Ordering}
use Rattle.std.specs.declared.cmp.Ordering.TheVariants.{Less, Equal, Greater}
use Rattle.std.specs.Ordering.{is_eq, ordering_then}
use Rattle.std.specs.Cmp.{nat_cmp_total}
use Rattle.std.proofs.lemmas.Cmp.{tied_itself}
use Rattle.std.proofs.lemmas.List.{take_all}
use Rattle.std.proofs.lemmas.List.Elements.{Contains-push, Contains-push_cases, Contains-append_left}
use Rattle.bep_facts.specs.Members.{not_in_none, Contains-first, Contains-one, Contains-cons_cases, Contains-image, Contains-from_image}
use Rattle.bep_facts.specs.Places.{done_with}
use Rattle.bep_facts.specs.Orders.{Equal_from_same, texts_exact, texts_total, not_less_itself}
use Rattle.bep_facts.specs.Rising.{below_later}
use Rattle.bep_record.specs.declared.entry.Entry.{Entry}
use Rattle.bep_record.specs.declared.node.NodeParts.{NodeParts}
use Rattle.bep_model.specs.declared.row.Row.{Row}
use Rattle.bep_model.specs.declared.firm_reason.FirmReason.{FirmReason}
use Rattle.bep_model.specs.declared.firm_reason.FirmReason.TheVariants.{VersionDiffers, ViewNotBelow, FlightNotBelow, PullNotBelow}
use Rattle.bep_model.specs.Tables.{Tables, Device, Folder, FileName, Shares}
use Rattle.bep_model.specs.Settled.{HasRow, IsSettled, Rise, key_of, key_cmp}
use Rattle.bep_model.specs.Firm.{OwnHasVersion, IsFirm}
use Rattle.bep_model.specs.FirmVerdict.{AsksFirmShare, AsksFirm, IsFirstLoose, firm_number_of}
use Rattle.bep_model.specs.Reasons.{Place, place_cmp}
use Rattle.bep_model.specs.Laws.{FirmIsFaultless}
use Rattle.bep_tables.specs.declared.cut.CutParts.{CutParts}
use Rattle.bep_tables.specs.declared.table.entry.TableEntry.{TableEntry}
use Rattle.bep_tables.specs.declared.table.entry.Source.{Source}
use Rattle.bep_tables.specs.declared.table.entry.Source.TheVariants.{Own, View, Flight, Pull}
use Rattle.bep_tables.specs.Cut.{IsCut, tables_of}
use Rattle.bep_tables.specs.Listed.{Holding, Record, Node, Listed, key_at, listed, listed_at, cut_listed, IsGrouped}
use Rattle.bep_tables.specs.Said.{Holds, EntriesAreHeld, HoldersShare}
use Rattle.bep_audit.specs.Grouped.{same_group_same}
use Rattle.bep_audit.specs.Loose.{Loosening, loose_cmp, precedes, asked_by, loosening_at, loosening_of, AsksVersion, place_at, AsksEntry, AsksEntries, MeetsFirm}
use Rattle.bep_audit.specs.LooseOrder.{loose_total}
use Rattle.bep_audit.specs.inner.Search.{FindsFirst, lesser}
use Rattle.bep_audit.proofs.FailingRow.{less_by_order}
use Rattle.bep_audit.proofs.RowsFacts.{rows_sorted}
use Rattle.bep_audit.proofs.NameWalk.{rise_later}
use Rattle.bep_audit.proofs.SearchFacts.{finds_as, lesser_finds}

-- ---- rows that rise have one row a name

first_is_under : (row : Row) (more : List Row) → Rise (row ∷ more) → (other : Row) → Contains more other → key_of row ≢ key_of other
first_is_under row more rise other member same =
    not_less_itself texts_total (key_of other)
    (subst (λ (k : Folder × FileName). key_cmp k (key_of other) ≡ Less) same (below_later key_cmp key_of row more (rows_sorted (row ∷ more) rise) other member))

pub one_row : (rows : List Row) → Rise rows → (one other : Row) → Contains rows one → Contains rows other → key_of one ≡ key_of other → one ≡ other
one_row [] rise one other here there same = absurd (not_in_none one here)
one_row (row ∷ more) rise one other here there same =
    ⊎_elim
    (λ first.
    ⊎_elim
    (λ second. sym first ∙ second)
    (λ later. absurd (first_is_under row more rise other later (ap key_of first ∙ same)))
    (Contains-cons_cases row more other there))
    (λ past.
    ⊎_elim
    (λ second. absurd (first_is_under row more rise one past (ap key_of second ∙ sym same)))
    (λ later. one_row more (rise_later row more rise) one other past later same)
    (Contains-cons_cases row more other there))
    (Contains-cons_cases row more one here)

-- ---- the order

pub not_before_itself : (one other : Loosening) → loose_cmp one other ≡ Less → one ≢ other
not_before_itself one other less same = not_less_itself loose_total other (subst (λ (o : Loosening). loose_cmp o other ≡ Less) same less)

-- ---- one entry

tied : (o : Ordering) → is_eq o ≡ true → o ≡ Equal
tied Less e = absurd (cc)
tied Equal e = refl
tied Greater e = absurd (cc)

-- a test for a tie tells whether two names are one
pub same_exactly : (o : Ordering) (b : Bool) (one other : Folder × FileName) → o ≡ key_cmp one other → b ≡ is_eq o → IsTrue b ↔ (one ≡ other)
same_exactly o b one other same is = (
  λ holds. texts_exact one other (sym same ∙ tied o (sym is ∙ holds)),
  λ e. is ∙ ap is_eq (same ∙ Equal_from_same texts_total one other e),
)

-- an entry that meets what it is asked is asked nothing in vain
pub asked_as_met : (rows : List Row) (one : Listed) → MeetsFirm rows one → (loose : Loosening) → AsksEntry rows one loose
asked_as_met rows one meets loose source entry row holding reason place member key = meets source entry row holding member key

-- nothing is asked beside rows that are about other names
pub met_without_row : (rows : List Row) (one : Listed) → ¬ HasRow rows one.folder one.name → MeetsFirm rows one
met_without_row rows one none source entry row holding member key = absurd (none (row, member, key))

-- beside the one row that is about its name it is asked what it is asked beside all
pub met_beside_one : (rows : List Row) → Rise rows → (one : Listed) (row : Row) → Contains rows row → key_of row ≡ key_at one → MeetsFirm (row ∷ []) one ↔ MeetsFirm rows one
met_beside_one rows rise one row member key = (
  λ meets source entry other holding there at.
      let same : row ≡ other = one_row rows rise row other member there (key ∙ sym at) in
      meets source entry other holding (subst (λ (r : Row). Contains (row ∷ []) r) same (Contains-first row [])) at,
  λ meets source entry other holding there at.
      meets source entry other holding (subst (λ (r : Row). Contains rows r) (Contains-one row other there) member) at,
)

-- what an entry that holds a record is asked beside one row
pub met_by_version : (row : Row) (one : Listed) (source : Source) (entry : Entry) → one.holding ≡ Record source entry → ((key_of row ≡ key_at one → AsksVersion source entry row.entry) ↔ MeetsFirm (row ∷ []) one)
met_by_version row one source entry holding = (
  λ asks other found next is there at.
      let e : Record source entry ≡ Record other found = sym holding ∙ is in
      let source_is : source ≡ other = cc in
      let entry_is : entry ≡ found = cc in
      let row_is = Contains-one row next there in
      subst (λ (r : Row). AsksVersion other found r.entry) row_is
      (subst (λ (s : Source). AsksVersion s found row.entry) source_is
      (subst (λ (e : Entry). AsksVersion source e row.entry) entry_is (asks (ap key_of row_is ∙ at)))),
  λ meets at. meets source entry row holding (Contains-first row []) at,
)

-- a node meets all
pub met_by_node : (rows : List Row) (one : Listed) (node : NodeParts) → one.holding ≡ Node node → MeetsFirm rows one
met_by_node rows one node holding source entry row is = let e : Node node ≡ Record source entry = sym holding ∙ is in absurd (cc)

-- an entry that doesn't meet it is asked that in vain, and nothing else
module _ (rows : List Row) (one : Listed) (fails : ¬ MeetsFirm rows one) where
  fails_at : (holding : Holding) → one.holding ≡ holding → FindsFirst loose_cmp (AsksEntry rows one) (loosening_at one holding)
  fails_at (Node node) is = absurd (fails (met_by_node rows one node is))
  fails_at (Record source entry) is = record {
    fails = λ asks. fails (λ other found row holding member key.
        let e : Record other found ≡ Record source entry = sym holding ∙ is in
        let same : source ≡ other = cc in
        asks other found row holding (ap asked_by same) refl member key);
    before = λ earlier less other found row holding reason place member key.
        let e : Record other found ≡ Record source entry = sym holding ∙ is in
        let same : other ≡ source = cc in
        let why : earlier.reason ≡ asked_by source = reason ∙ ap asked_by same in
        absurd (not_before_itself earlier (record { reason = asked_by source; place = place_at one }) less (λ i. record { reason = why i; place = place i }));
  }

  pub asked_in_vain : (found : Option Loosening) → found ≡ loosening_of one → FindsFirst loose_cmp (AsksEntry rows one) found
  asked_in_vain found is = subst (FindsFirst loose_cmp (AsksEntry rows one)) (sym is) (fails_at one.holding refl)

-- ---- the entries of a table, one after the other

-- what these entries are asked
abbrev pub AsksLent : List Row → List TableEntry → Loosening → Type 0
AsksLent rows entries loose = (entry : TableEntry) → Contains entries entry → AsksEntry rows (listed entry) loose

-- the lesser of two, told by a test
lesser_by_test : (least here : Option Loosening) → lesser loose_cmp least here ≡ cond (precedes here least) here least
lesser_by_test None None = refl
lesser_by_test None (Some here) = refl
lesser_by_test (Some least) None = refl
lesser_by_test (Some least) (Some here) = refl

module _ (rows : List Row) where
  pub nothing_asked : FindsFirst loose_cmp (AsksLent rows []) None
  nothing_asked loose entry member = absurd (not_in_none entry member)

  one_more : (done : List TableEntry) (entry : TableEntry) (found : Option Loosening) → FindsFirst loose_cmp (λ loose. AsksLent rows done loose × AsksEntry rows (listed entry) loose) found → FindsFirst loose_cmp (AsksLent rows (done ++ entry ∷ [])) found
  one_more done entry =
      finds_as loose_cmp (λ loose. AsksLent rows done loose × AsksEntry rows (listed entry) loose) (AsksLent rows (done ++ entry ∷ []))
      (λ loose both other member.
      ⊎_elim
      (λ before. both.0 other before)
      (λ same. subst (λ (e : TableEntry). AsksEntry rows (listed e) loose) same both.1)
      (Contains-push_cases done entry other member))
      (λ loose all. (
        λ other before. all other (Contains-append_left done (entry ∷ []) other before),
        all entry (Contains-push done entry),
      ))

  pub asked_goes_on : (table : List TableEntry) (place : ℕ) (entry : TableEntry) → place < length table → entry ≡ get_or table place entry → (so_far more found : Option Loosening) →
      FindsFirst loose_cmp (AsksLent rows (take place table)) so_far → FindsFirst loose_cmp (AsksEntry rows (listed entry)) more → found ≡ cond (precedes more so_far) more so_far →
      FindsFirst loose_cmp (AsksLent rows (take (place + 1) table)) found
  asked_goes_on table place entry below stands so_far more found first second is =
      subst (λ done. FindsFirst loose_cmp (AsksLent rows done) found) (sym (done_with table place entry below stands))
      (one_more (take place table) entry found
      (subst (FindsFirst loose_cmp (λ loose. AsksLent rows (take place table) loose × AsksEntry rows (listed entry) loose)) (lesser_by_test so_far more ∙ sym is)
      (lesser_finds loose_cmp loose_total (AsksLent rows (take place table)) (AsksEntry rows (listed entry)) so_far more first second)))

  pub all_asked : (table : List TableEntry) (place : ℕ) → length table ≤ place → (found : Option Loosening) → FindsFirst loose_cmp (AsksLent rows (take place table)) found → FindsFirst loose_cmp (AsksEntries rows (map listed table)) found
  all_asked table place past found least =
      finds_as loose_cmp (AsksLent rows table) (AsksEntries rows (map listed table))
      (λ loose asks one member. let lent = Contains-from_image listed table one member in subst (λ (o : Listed). AsksEntry rows o loose) lent.2 (asks lent.0 lent.1))
      (λ loose asks entry member. asks (listed entry) (Contains-image listed table entry member))
      found
      (subst (λ all. FindsFirst loose_cmp (AsksLent rows all) found) (take_all place table past) least)

-- ---- all entries, and the reasons

module _ (held : EntriesAreHeld) (shared : HoldersShare) (cut : CutParts) (is_cut : IsCut cut) (table : List TableEntry) (grouped : IsGrouped (cut_listed cut) table) (rows : List Row) where
  abbrev T : Tables
  T = tables_of cut

  in_table : (one : Listed) → Contains (cut_listed cut) one → Contains (map listed table) one
  in_table one = same_group_same one (cut_listed cut) (map listed table) (sym (grouped.groups (key_at one)))

  in_cut : (one : Listed) → Contains (map listed table) one → Contains (cut_listed cut) one
  in_cut one = same_group_same one (map listed table) (cut_listed cut) (grouped.groups (key_at one))

  -- what a device holds is asked
  asked_at : (loose : Loosening) → AsksEntries rows (map listed table) loose → (row : Row) (device : Device) (source : Source) (entry : Entry) → Contains rows row →
      Holds T device row.folder row.entry.name (Record source entry) → loose.reason ≡ asked_by source → loose.place ≡ record { folder = row.folder; name = row.entry.name; device = Some device } → AsksVersion source entry row.entry
  asked_at loose asks row device source entry member holds reason place =
      let one = listed_at row.folder row.entry.name device (Record source entry) in
      asks one (in_table one ((held cut one is_cut).1 holds)) source entry row refl reason place member refl

  share_asks : (loose : Loosening) → AsksEntries rows (map listed table) loose → (row : Row) (device : Device) → Contains rows row → loose.place ≡ record { folder = row.folder; name = row.entry.name; device = Some device } →
      (reason : FirmReason) → loose.reason ≡ reason → AsksFirmShare T reason row device
  share_asks loose asks row device member place VersionDiffers is = by_own (T.own device row.folder row.entry.name) refl
    where
      by_own : (own : Option Entry) → T.own device row.folder row.entry.name ≡ own → OwnHasVersion own row.entry.version
      by_own None here = tt
      by_own (Some own) here = asked_at loose asks row device Own own member here is place
  share_asks loose asks row device member place ViewNotBelow is = λ entry viewed valid. asked_at loose asks row device View entry member (viewed, valid) is place
  share_asks loose asks row device member place FlightNotBelow is = λ entry flying valid. asked_at loose asks row device Flight entry member (flying, valid) is place
  share_asks loose asks row device member place PullNotBelow is = λ entry target valid. asked_at loose asks row device Pull entry member (target, valid) is place

  pub reasons_from_entries : (loose : Loosening) → AsksEntries rows (map listed table) loose → AsksFirm T rows loose.reason loose.place
  reasons_from_entries loose asks row device member key here shares =
      let place : loose.place ≡ record { folder = row.folder; name = row.entry.name; device = Some device } =
      λ i. record { folder = (sym key i).0; name = (sym key i).1; device = here i } in
      share_asks loose asks row device member place loose.reason refl

  -- what a reason asks of a device is asked of what it holds
  version_asked : (row : Row) (device : Device) (source : Source) (entry : Entry) → Holds T device row.folder row.entry.name (Record source entry) → AsksFirmShare T (asked_by source) row device → AsksVersion source entry row.entry
  version_asked row device Own entry holds asks = subst (λ (o : Option Entry). OwnHasVersion o row.entry.version) holds asks
  version_asked row device View entry holds asks = asks entry holds.0 holds.1
  version_asked row device Flight entry holds asks = asks entry holds.0 holds.1
  version_asked row device Pull entry holds asks = asks entry holds.0 holds.1

  pub entries_from_reasons : (loose : Loosening) → AsksFirm T rows loose.reason loose.place → AsksEntries rows (map listed table) loose
  entries_from_reasons loose asks one inside source entry row holding reason place member key =
      let there = in_cut one inside in
      let shares : Shares T one.device one.folder = shared cut one is_cut there in
      let holds : Holds T one.device one.folder one.name (Record source entry) = subst (λ (h : Holding). Holds T one.device one.folder one.name h) holding ((held cut one is_cut).0 there) in
      let at_key : key_of row ≡ (loose.place.folder, loose.place.name) = key ∙ ap (λ (p : Place). (p.folder, p.name)) (sym place) in
      let at_device : loose.place.device ≡ Some one.device = ap (λ (p : Place). p.device) place in
      let at_folder : one.folder ≡ loose.place.folder = ap (λ (p : Place). p.folder) (sym place) in
      let asked = asks row one.device member at_key at_device (subst (λ (f : Folder). Shares T one.device f) at_folder shares) in
      version_asked row one.device source entry
      (subst (λ (k : Folder × FileName). Holds T one.device k.0 k.1 (Record source entry)) (sym key) holds)
      (subst (λ (r : FirmReason). AsksFirmShare T r row one.device) reason asked)

  -- ---- the verdict

  pub none_is_firm : FirmIsFaultless → IsSettled T rows → FindsFirst loose_cmp (AsksEntries rows (map listed table)) None → IsFirm T rows
  none_is_firm faultless settled none =
      (faultless T rows).1 (settled, λ reason place. reasons_from_entries (record { reason = reason; place = place }) (none (record { reason = reason; place = place })))

  pub least_is_loose : (loose : Loosening) → FindsFirst loose_cmp (AsksEntries rows (map listed table)) (Some loose) → IsFirstLoose T rows loose.reason loose.place
  least_is_loose loose first = record {
    fails = λ asks. first.fails (entries_from_reasons loose asks);
    least = λ reason any less.
        reasons_from_entries (record { reason = reason; place = any })
        (first.before (record { reason = reason; place = any }) (ap (λ o. ordering_then o (place_cmp any loose.place)) (less_by_order (firm_number_of reason) (firm_number_of loose.reason) less)));
    first = λ earlier less.
        reasons_from_entries (record { reason = loose.reason; place = earlier })
        (first.before (record { reason = loose.reason; place = earlier }) (ap (λ o. ordering_then o (place_cmp earlier loose.place)) (tied_itself nat_cmp_total (firm_number_of loose.reason)) ∙ less));
  }

  -- so a cut with such an entry isn't firm
  pub loose_is_not_firm : FirmIsFaultless → (loose : Loosening) → FindsFirst loose_cmp (AsksEntries rows (map listed table)) (Some loose) → ¬ IsFirm T rows
  loose_is_not_firm faultless loose first firm = first.fails (entries_from_reasons loose (((faultless T rows).0 firm).1 loose.reason loose.place))

-- what is found of lent entries and rows is found of what they are lent from
pub found_in : (rows lent : List Row) (table entries : List TableEntry) (found result : Option Loosening) → lent ≡ rows → entries ≡ table → result ≡ found → FindsFirst loose_cmp (AsksEntries lent (map listed entries)) result → FindsFirst loose_cmp (AsksEntries rows (map listed table)) found
found_in rows lent table entries found result same_rows same_entries same finds =
    subst (FindsFirst loose_cmp (AsksEntries rows (map listed table))) same
    (subst (λ (all : List TableEntry). FindsFirst loose_cmp (AsksEntries rows (map listed all)) result) same_entries
    (subst (λ (all : List Row). FindsFirst loose_cmp (AsksEntries all (map listed entries)) result) same_rows finds))
