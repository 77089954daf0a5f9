-- How far the names of a folder have come: at one name, and along the walk over the names.
use Rattle.std.proofs.Common.{◌≡◌, ◌≢◌, ◌⊎◌, ◌↔◌, ◌<◌, ◌≤◌, ◌+◌, ◌∙◌, ℕ, List, [], ◌∷◌, Contains, Option, Some, None, length, map, drop, take, refl, sym, ap, subst, inl, inr, ⊎_elim, arith, length-drop}
use Rattle.std.specs.declared.cmp.Ordering.TheVariants.{Less}
use Rattle.std.specs.Ordering.{nat_cmp}
use Rattle.std.specs.FinMap.{get}
use Rattle.std.specs.List.Sorted.{IsStrictlySortedBy}
use Rattle.std.proofs.lemmas.Bool.{cases_eq}
use Rattle.std.proofs.lemmas.Cmp.{ranked}
use Rattle.std.proofs.lemmas.List.{length-map}
use Rattle.std.proofs.lemmas.Map.Keys.{sorted_tail, sorted_from_strictly_increasing}
use Rattle.bep_facts.specs.Members.{not_in_none, Contains-first, Contains-more, Contains-cons_cases, Contains-image, Contains-from_image}
use Rattle.bep_facts.specs.Rising.{below_later}
use Rattle.bep_record.specs.declared.entry.Entry.{Entry}
use Rattle.bep_model.specs.Tables.{Tables, Device, Folder, FileName, Shares}
use Rattle.bep_model.specs.Firm.{AreEqual}
use Rattle.bep_model.specs.Foreign.{IsKnown}
use Rattle.bep_tables.specs.declared.cut.CutParts.{CutParts}
use Rattle.bep_tables.specs.declared.share.Share.{Share}
use Rattle.bep_tables.specs.declared.table.entry.TableEntry.{TableEntry}
use Rattle.bep_tables.specs.Cut.{IsCut, devices_of, shares_of, tables_of}
use Rattle.bep_tables.specs.Laws.{CutSays}
use Rattle.bep_tables.specs.Listed.{Listed, listed, AreInOrder, IsGrouped, cut_listed}
use Rattle.bep_tables.specs.Said.{EntriesAreHeld, HoldersShare}
use Rattle.bep_audit.specs.Group.{IsGroupOf}
use Rattle.bep_audit.specs.inner.Walk.{next_key, count_at}
use Rattle.bep_audit.proofs.CutFacts.{share_of_device, device_of_share, devices_rise}
use Rattle.bep_audit.proofs.GroupFacts.{known_by_group}
use Rattle.bep_audit.proofs.GroupWalk as groups
use Rattle.bep_audit.proofs.GroupWalk.{Stands, same_or_not, stands_at_first, unlisted_is_unknown, front_is_group, stands_afterwards, table_left}
use Rattle.bep_audit.proofs.NameWalk.{Key, IsNext, Remains, none_left, was_left, not_left, left_or_here}
use Rattle.bep_converge.specs.Prevails.{IsAnywhere, IsTop, IsAtTop}
use Rattle.bep_converge_check.specs.SoMany.{HasNoneTwice, AreSoMany}
use Rattle.bep_converge_check.specs.Progress.{IsWinner, HasCome, IsToCome, IsThere, IsGone, IsDeleted, IsUndeleted}
use Rattle.bep_converge_check.specs.inner.Behind.{IsWinnerIn, FindsWinner, IsAtWinner, IsBehindAmong, IsUpAmong, IsOfKey, AreSoManyOf}
use Rattle.bep_converge_check.proofs.NameSays.{top_is, top_among, at_other_top}
use Rattle.bep_converge_check.proofs.SoManyFacts.{none_of, such_too, both_of, just_one, beside_all}

-- names are the same or not
same_name : (one other : FileName) → (one ≡ other) ⊎ (one ≢ other)
same_name one other =
    ⊎_elim
    (λ same. inl (ap (λ (key : Key). key.1) same))
    (λ apart. inr (λ same. apart (ap (λ (name : FileName). (one, name)) same)))
    (same_or_not (one, one) (one, other))

-- the name of a name, and of a pair
abbrev pub own_name : FileName → FileName
own_name name = name

abbrev pub name_in : FileName × Device → FileName
name_in pair = pair.0

-- ---- the folder's own names

module _ (folder other : Folder) (name : FileName) where
  pub one_name : folder ≡ other → AreSoMany (IsOfKey folder other name) (λ one. ¬ IsOfKey folder other name one) 1
  one_name same =
      such_too (λ (one : FileName). one ≡ name) (λ (one : FileName). one ≢ name) (IsOfKey folder other name) (λ one. ¬ IsOfKey folder other name one) 1
      (λ one is. (same, is))
      (λ one apart of_key. apart of_key.1)
      (just_one name (λ one. same_name one name))

  pub no_name : folder ≢ other → AreSoMany (IsOfKey folder other name) (λ one. ¬ IsOfKey folder other name one) 0
  no_name apart = none_of (IsOfKey folder other name) (λ one. ¬ IsOfKey folder other name one) (λ one of_key. apart of_key.0)

-- ---- one name

module _ (held : EntriesAreHeld) (shared : HoldersShare) (said : CutSays) (cut : CutParts) (is_cut : IsCut cut) (folder : Folder) (name : FileName) (group : List Listed) (is_group : IsGroupOf cut (folder, name) group) where
  abbrev T : Tables
  T = tables_of cut

  wins_as : (top : Entry) → IsWinnerIn group top → IsWinner T folder name top
  wins_as top wins = record {
    top_of = top_is held shared cut is_cut (folder, name) group is_group top wins.0;
    alone = λ other is. wins.1 other (top_among held shared cut is_cut (folder, name) group is_group other is);
  }

  wins_among : (top : Entry) → IsWinner T folder name top → IsWinnerIn group top
  wins_among top is = (
    top_among held shared cut is_cut (folder, name) group is_group top is.top_of,
    λ other too. is.alone other (top_is held shared cut is_cut (folder, name) group is_group other too),
  )

  there : (top : Entry) → IsTop T folder name top → IsAnywhere T folder name top
  there top is = (is.owner, is.shares, inl is.owned)

  at_same : (own : Option Entry) (top other : Entry) → IsWinner T folder name top → IsWinner T folder name other → IsAtTop own other → IsAtTop own top
  at_same own top other one two at =
      let versions : AreEqual other.version top.version = (one.top_of.above_all other (there other two.top_of), two.top_of.above_all top (there top one.top_of)) in
      at_other_top own other top versions (one.alone other two.top_of) at

  come_as : (winner : Option Entry) → FindsWinner group winner → (device : Device) → IsAtWinner winner (T.own device folder name) ↔ HasCome T folder name device
  come_as None none device = (λ at. absurd at, λ come. absurd (none come.0 (wins_among come.0 come.1)))
  come_as (Some top) wins device = (
    λ at. (top, wins_as top wins, at.0, at.1),
    λ come. (at_same (T.own device folder name) top come.0 (wins_as top wins) come.1 come.2, come.3),
  )

  module _ (winner : Option Entry) (found : FindsWinner group winner) where
    behind_is : IsKnown T folder name → (device : Device) → IsBehindAmong winner name (shares_of folder cut.folders) device → IsToCome T folder (name, device)
    behind_is known device behind = record {
      known = known;
      shares = subst (λ (d : Device). Shares T d folder) behind.2 (device_of_share said cut is_cut folder behind.0 behind.1);
      not_yet = λ come.
          behind.3
          (subst (IsAtWinner winner) (said.own cut folder name behind.0 is_cut behind.1)
          ((come_as winner found behind.0.device).1 (subst (HasCome T folder name) (sym behind.2) come)));
    }

    up_is : (device : Device) → IsUpAmong winner name (shares_of folder cut.folders) device → IsThere T folder (name, device)
    up_is device up known shares =
        let share = share_of_device said cut is_cut folder device shares in
        subst (HasCome T folder name) share.2
        ((come_as winner found share.0.device).0
        (subst (IsAtWinner winner) (sym (said.own cut folder name share.0 is_cut share.1)) (up share.0 share.1 share.2)))

    -- so many pairs of the name are still to come
    pub pairs_here : IsKnown T folder name → (count : ℕ) → AreSoMany (IsBehindAmong winner name (shares_of folder cut.folders)) (IsUpAmong winner name (shares_of folder cut.folders)) count →
        AreSoManyOf name_in (IsToCome T folder) (IsThere T folder) folder folder name count
    pairs_here known count so =
        such_too
        (λ (pair : FileName × Device). (pair.0 ≡ name) × IsBehindAmong winner name (shares_of folder cut.folders) pair.1)
        (λ (pair : FileName × Device). pair.0 ≡ name → IsUpAmong winner name (shares_of folder cut.folders) pair.1)
        (λ (pair : FileName × Device). IsOfKey folder folder name pair.0 × IsToCome T folder pair)
        (λ (pair : FileName × Device). IsOfKey folder folder name pair.0 → IsThere T folder pair)
        count
        (λ pair is. ((refl, is.0), subst (λ (one : FileName). IsToCome T folder (one, pair.1)) (sym is.0) (behind_is known pair.1 is.1)))
        (λ pair up of_key. subst (λ (one : FileName). IsThere T folder (one, pair.1)) (sym of_key.1) (up_is pair.1 (up of_key.1)))
        (beside_all name (IsBehindAmong winner name (shares_of folder cut.folders)) (IsUpAmong winner name (shares_of folder cut.folders)) count (λ other. same_name other name) so)

-- the same, where the folder has another spelling
pub pairs_at : EntriesAreHeld → HoldersShare → CutSays → (cut : CutParts) → IsCut cut → (folder other : Folder) → folder ≡ other → (name : FileName) (group : List Listed) → IsGroupOf cut (other, name) group → IsKnown (tables_of cut) other name →
    (winner : Option Entry) → FindsWinner group winner → (count : ℕ) → AreSoMany (IsBehindAmong winner name (shares_of folder cut.folders)) (IsUpAmong winner name (shares_of folder cut.folders)) count →
    AreSoManyOf name_in (IsToCome (tables_of cut) folder) (IsThere (tables_of cut) folder) folder other name count
pairs_at held shared said cut is_cut folder other same name group is_group known winner found count so =
    subst (λ (o : Folder). AreSoManyOf name_in (IsToCome (tables_of cut) folder) (IsThere (tables_of cut) folder) folder o name count) same
    (pairs_here held shared said cut is_cut folder name group
    (subst (λ (o : Folder). IsGroupOf cut (o, name) group) (sym same) is_group)
    winner found
    (subst (λ (o : Folder). IsKnown (tables_of cut) o name) (sym same) known)
    count so)

-- ---- names of which no device holds a file

pub gone_as : (said : CutSays) (cut : CutParts) (is_cut : IsCut cut) (folder : Folder) (name : FileName) →
    ((share : Share) → Contains (shares_of folder cut.folders) share → get share.store name ≡ None) ↔ IsGone (tables_of cut) folder name
gone_as said cut is_cut folder name = (
  λ lack device sharing.
      let share = share_of_device said cut is_cut folder device sharing in
      subst (λ (d : Device). (tables_of cut).node d folder name ≡ None) share.2 (said.node cut folder name share.0 is_cut share.1 ∙ lack share.0 share.1),
  λ gone share member. sym (said.node cut folder name share is_cut member) ∙ gone share.device (device_of_share said cut is_cut folder share member),
)

module _ (t : Tables) (folder other : Folder) (name : FileName) (same : folder ≡ other) where
  pub one_deleted : IsKnown t other name → IsGone t folder name → AreSoManyOf own_name (IsDeleted t folder) (IsUndeleted t folder) folder other name 1
  one_deleted known gone =
      such_too (IsOfKey folder other name) (λ one. ¬ IsOfKey folder other name one)
      (λ (one : FileName). IsOfKey folder other name one × IsDeleted t folder one) (λ (one : FileName). IsOfKey folder other name one → IsUndeleted t folder one) 1
      (λ one of_key. (
        of_key,
        (
          subst (λ (f : Folder). IsKnown t f one) (sym same) (subst (IsKnown t other) (sym of_key.1) known),
          subst (IsGone t folder) (sym of_key.1) gone,
        ),
      ))
      (λ one apart of_key. absurd (apart of_key))
      (one_name folder other name same)

  pub none_deleted : ¬ IsGone t folder name → AreSoManyOf own_name (IsDeleted t folder) (IsUndeleted t folder) folder other name 0
  none_deleted held =
      none_of (λ (one : FileName). IsOfKey folder other name one × IsDeleted t folder one) (λ (one : FileName). IsOfKey folder other name one → IsUndeleted t folder one)
      (λ one of_key known gone. held (subst (IsGone t folder) of_key.1 gone))

-- of another folder there is none
pub none_there : {X : Type 0} → (name_of : X → FileName) (Is IsOther : X → Type 0) (folder other : Folder) (name : FileName) → folder ≢ other → AreSoManyOf name_of Is IsOther folder other name 0
none_there {X} name_of Is IsOther folder other name apart =
    none_of (λ (one : X). IsOfKey folder other name (name_of one) × Is one) (λ (one : X). IsOfKey folder other name (name_of one) → IsOther one)
    (λ one of_key. absurd (apart of_key.0))

-- ---- the devices

in_or_not : (numbers : List ℕ) (number : ℕ) → Contains numbers number ⊎ (¬ Contains numbers number)
in_or_not [] number = inr (λ member. not_in_none number member)
in_or_not (first ∷ more) number =
    ⊎_elim
    (λ same. inl (subst (Contains (first ∷ more)) same (Contains-first first more)))
    (λ apart.
    ⊎_elim
    (λ later. inl (Contains-more first more number later))
    (λ not. inr (λ member. ⊎_elim (λ same. apart same) (λ later. not later) (Contains-cons_cases first more number member)))
    (in_or_not more number))
    (cases_eq first number)

rising_once : (shares : List Share) → IsStrictlySortedBy nat_cmp (devices_of shares) → HasNoneTwice (devices_of shares)
rising_once [] rise = tt
rising_once (share ∷ more) rise = (
  λ member.
      let found = Contains-from_image (λ (s : Share). s.device) more share.device member in
      let lower : share.device < found.0.device = ranked share.device found.0.device Less (sym (below_later nat_cmp (λ (s : Share). s.device) share more rise found.0 found.1)) in
      let same = found.2 in
      omega (arith, lower, same),
  rising_once more (sorted_tail nat_cmp share.device (devices_of more) rise),
)

pub devices_counted : (said : CutSays) (cut : CutParts) (is_cut : IsCut cut) (folder : Folder) (count : ℕ) → count ≡ length (shares_of folder cut.folders) →
    AreSoMany (λ device. Shares (tables_of cut) device folder) (λ device. ¬ Shares (tables_of cut) device folder) count
devices_counted said cut is_cut folder count is =
    let shares = shares_of folder cut.folders in
    record {
      all = devices_of shares;
      once = rising_once shares (sorted_from_strictly_increasing (devices_of shares) (devices_rise said cut is_cut folder shares refl));
      each = λ device member.
          let found = Contains-from_image (λ (s : Share). s.device) shares device member in
          subst (λ (d : Device). Shares (tables_of cut) d folder) found.2 (device_of_share said cut is_cut folder found.0 found.1);
      rest = λ device.
          ⊎_elim
          (λ member. inl member)
          (λ not.
          inr
          (λ sharing.
          let share = share_of_device said cut is_cut folder device sharing in
          not (subst (Contains (devices_of shares)) share.2 (Contains-image (λ (s : Share). s.device) shares share.0 share.1))))
          (in_or_not (devices_of shares) device);
      counted = length-map shares (λ (s : Share). s.device) ∙ sym is;
    }

-- ---- the walk over the names

module _ (cut : CutParts) (folder : Folder) where
  abbrev Out : Tables
  Out = tables_of cut

  -- so many things of this kind have names of the folder that are past, where these entries are left
  abbrev pub ArePast : {X : Type 0} → (X → FileName) → (X → Type 0) → (X → Type 0) → List TableEntry → ℕ → Type 0
  ArePast name_of Is IsOther entries count =
      AreSoMany (λ one. Is one × (¬ Remains entries [] (folder, name_of one))) (λ one. (¬ Remains entries [] (folder, name_of one)) → IsOther one) count

  -- these entries are left, and of the names of the folder that are past so many are known, so many of these are deleted, and so
  -- many pairs are to come
  pub record Walked (entries : List TableEntry) (past gone coming : ℕ) : Type 0 where
    pub stands : Stands cut [] entries []
    pub names : ArePast own_name (IsKnown Out folder) (λ name. ¬ IsKnown Out folder name) entries past
    pub deleted : ArePast own_name (IsDeleted Out folder) (IsUndeleted Out folder) entries gone
    pub to_come : ArePast name_in (IsToCome Out folder) (IsThere Out folder) entries coming

  none_past : {X : Type 0} → (name_of : X → FileName) (Is IsOther : X → Type 0) (entries : List TableEntry) → ((one : X) → ¬ Remains entries [] (folder, name_of one) → IsOther one) → ArePast name_of Is IsOther entries 0
  none_past {X} name_of Is IsOther entries others =
      none_of (λ (one : X). Is one × (¬ Remains entries [] (folder, name_of one))) (λ (one : X). (¬ Remains entries [] (folder, name_of one)) → IsOther one) others

  -- the walk starts with the part of the table that is of the folder
  module _ (held : EntriesAreHeld) (share : HoldersShare) (is_cut : IsCut cut) (table part : List TableEntry) (grouped : IsGrouped (cut_listed cut) table) (order : AreInOrder (map listed part))
      (all : (one : TableEntry) → Contains part one ↔ (Contains table one × (one.folder.now ≡ folder))) where
    part_stands : Stands cut [] part []
    part_stands =
        let whole = stands_at_first cut [] table grouped tt in
        record {
          order = order;
          rise = tt;
          listed_all = λ entry member. whole.listed_all entry ((all entry).0 member).0;
          entries_left = λ one there left.
              ⊎_elim
              (λ entry.
              let image = Contains-from_image listed table one (whole.entries_left one there (inl (entry.0, ((all entry.0).0 entry.1).0, entry.2))) in
              let same : image.0.folder.now ≡ folder = ap (λ (l : Listed). l.folder) image.2 ∙ ap (λ (k : Key). k.0) (sym entry.2) ∙ ((all entry.0).0 entry.1).1 in
              subst (Contains (map listed part)) image.2 (Contains-image listed part image.0 ((all image.0).1 (image.1, same))))
              (λ row. absurd (not_in_none row.0 row.1))
              left;
          of_rows = λ row member. member;
          rows_left = λ row member left. member;
        }

    part_unknown : (name : FileName) → ¬ Remains part [] (folder, name) → ¬ IsKnown Out folder name
    part_unknown name gone =
        unlisted_is_unknown cut [] table grouped held share is_cut (folder, name)
        (λ remains.
        gone
        (⊎_elim
        (λ entry. inl (entry.0, (all entry.0).1 (entry.1, ap (λ (k : Key). k.0) entry.2), entry.2))
        (λ row. inr row)
        remains))

    pub walk_starts : Walked part 0 0 0
    walk_starts = record {
      stands = part_stands;
      names = none_past own_name (IsKnown Out folder) (λ name. ¬ IsKnown Out folder name) part part_unknown;
      deleted = none_past own_name (IsDeleted Out folder) (IsUndeleted Out folder) part (λ name gone known. absurd (part_unknown name gone known));
      to_come = none_past name_in (IsToCome Out folder) (IsThere Out folder) part (λ pair gone known. absurd (part_unknown pair.0 gone known));
    }

  all_past : {X : Type 0} → (name_of : X → FileName) (Is IsOther : X → Type 0) (entries : List TableEntry) (count : ℕ) → next_key entries [] ≡ None → ArePast name_of Is IsOther entries count → AreSoMany Is IsOther count
  all_past {X} name_of Is IsOther entries count none past =
      such_too (λ (one : X). Is one × (¬ Remains entries [] (folder, name_of one))) (λ (one : X). (¬ Remains entries [] (folder, name_of one)) → IsOther one) Is IsOther count
      (λ one was. was.0)
      (λ one other. other (none_left entries [] none (folder, name_of one)))
      past

  module _ (entries : List TableEntry) (past gone coming : ℕ) (walked : Walked entries past gone coming) (none : next_key entries [] ≡ None) where
    pub names_end : AreSoMany (IsKnown Out folder) (λ name. ¬ IsKnown Out folder name) past
    names_end = all_past own_name (IsKnown Out folder) (λ name. ¬ IsKnown Out folder name) entries past none walked.names

    pub deleted_ends : AreSoMany (IsDeleted Out folder) (IsUndeleted Out folder) gone
    deleted_ends = all_past own_name (IsDeleted Out folder) (IsUndeleted Out folder) entries gone none walked.deleted

    pub to_come_ends : AreSoMany (IsToCome Out folder) (IsThere Out folder) coming
    to_come_ends = all_past name_in (IsToCome Out folder) (IsThere Out folder) entries coming none walked.to_come

  module _ (entries : List TableEntry) (past gone coming : ℕ) (walked : Walked entries past gone coming) (key : Key) (is : next_key entries [] ≡ Some key) where
    here_next : IsNext entries [] key
    here_next = groups.next cut [] entries [] walked.stands key is

    abbrev Rest : List TableEntry
    Rest = drop (count_at key entries) entries

    gone_too : (other : Key) → ¬ Remains entries [] other → ¬ Remains Rest [] other
    gone_too other none left = none (was_left entries [] key walked.stands.order tt here_next other left)

    left_unless_here : (other : Key) → other ≢ key → ¬ Remains Rest [] other → ¬ Remains entries [] other
    left_unless_here other apart none remains = ⊎_elim (λ left. none left) (λ same. apart same) (left_or_here entries [] key walked.stands.order tt here_next other remains)

    is_key : (name : FileName) → IsOfKey folder key.0 key.1 name → ◌≡◌ {A = Key} (folder, name) key
    is_key name of_key i = (of_key.0 i, of_key.1 i)

    of_key_is : (name : FileName) → ◌≡◌ {A = Key} (folder, name) key → IsOfKey folder key.0 key.1 name
    of_key_is name same = (ap (λ (k : Key). k.0) same, ap (λ (k : Key). k.1) same)

    not_past : (name : FileName) → IsOfKey folder key.0 key.1 name → Remains entries [] (folder, name)
    not_past name of_key = subst (Remains entries []) (sym (is_key name of_key)) here_next.remains

    not_left_here : (name : FileName) → IsOfKey folder key.0 key.1 name → ¬ Remains Rest [] (folder, name)
    not_left_here name of_key left = not_left entries [] key walked.stands.order tt here_next (subst (Remains Rest []) (is_key name of_key) left)

    -- the name that comes next is known
    pub known_next : EntriesAreHeld → HoldersShare → IsCut cut → IsKnown Out key.0 key.1
    known_next held share is_cut =
        let group = map listed (take (count_at key entries) entries) in
        let is_group : IsGroupOf cut key group = front_is_group cut [] entries [] walked.stands key is in
        ⊎_elim
        (λ entry. (known_by_group held cut is_cut key group is_group share).0 (listed entry.0, (is_group (listed entry.0)).1 (walked.stands.listed_all entry.0 entry.1, entry.2)))
        (λ row. absurd (not_in_none row.0 row.1))
        here_next.remains

    -- those of the next name come to those that are past
    one_more : {X : Type 0} → (name_of : X → FileName) (Is IsOther : X → Type 0) (count more : ℕ) → ArePast name_of Is IsOther entries count → AreSoManyOf name_of Is IsOther folder key.0 key.1 more → ArePast name_of Is IsOther Rest (count + more)
    one_more {X} name_of Is IsOther count more were added =
        both_of
        (λ (one : X). Is one × (¬ Remains entries [] (folder, name_of one))) (λ (one : X). (¬ Remains entries [] (folder, name_of one)) → IsOther one)
        (λ (one : X). IsOfKey folder key.0 key.1 (name_of one) × Is one) (λ (one : X). IsOfKey folder key.0 key.1 (name_of one) → IsOther one)
        (λ (one : X). Is one × (¬ Remains Rest [] (folder, name_of one))) (λ (one : X). (¬ Remains Rest [] (folder, name_of one)) → IsOther one)
        count more were added
        (λ one was here. was.1 (not_past (name_of one) here.0))
        (λ one was. (was.0, gone_too (folder, name_of one) was.1))
        (λ one here. (here.1, not_left_here (name_of one) here.0))
        (λ one was not none.
        ⊎_elim
        (λ same. not (of_key_is (name_of one) same))
        (λ apart. was (left_unless_here (folder, name_of one) apart none))
        (same_or_not (folder, name_of one) key))

    known_more : IsKnown Out key.0 key.1 → (more : ℕ) → AreSoMany (IsOfKey folder key.0 key.1) (λ one. ¬ IsOfKey folder key.0 key.1 one) more →
        AreSoManyOf own_name (IsKnown Out folder) (λ name. ¬ IsKnown Out folder name) folder key.0 key.1 more
    known_more known more so =
        such_too (IsOfKey folder key.0 key.1) (λ one. ¬ IsOfKey folder key.0 key.1 one)
        (λ (name : FileName). IsOfKey folder key.0 key.1 name × IsKnown Out folder name) (λ (name : FileName). IsOfKey folder key.0 key.1 name → ¬ IsKnown Out folder name) more
        (λ name of_key. (of_key, subst (λ (k : Key). IsKnown Out k.0 k.1) (sym (is_key name of_key)) known))
        (λ name apart of_key. absurd (apart of_key))
        so

    -- it goes on
    pub walk_goes_on : IsKnown Out key.0 key.1 → (more lost pairs : ℕ) → AreSoMany (IsOfKey folder key.0 key.1) (λ one. ¬ IsOfKey folder key.0 key.1 one) more →
        AreSoManyOf own_name (IsDeleted Out folder) (IsUndeleted Out folder) folder key.0 key.1 lost →
        AreSoManyOf name_in (IsToCome Out folder) (IsThere Out folder) folder key.0 key.1 pairs →
        Walked Rest (past + more) (gone + lost) (coming + pairs)
    walk_goes_on known more lost pairs names deleted to_come = record {
      stands = stands_afterwards cut [] entries [] walked.stands key is;
      names = one_more own_name (IsKnown Out folder) (λ name. ¬ IsKnown Out folder name) past more walked.names (known_more known more names);
      deleted = one_more own_name (IsDeleted Out folder) (IsUndeleted Out folder) gone lost walked.deleted deleted;
      to_come = one_more name_in (IsToCome Out folder) (IsThere Out folder) coming pairs walked.to_come to_come;
    }

-- ---- the walk by its places

module _ (cut : CutParts) (folder : Folder) (table : List TableEntry) (at past gone coming : ℕ) (walked : Walked cut folder (drop at table) past gone coming) (key : Key) (is : next_key (drop at table) [] ≡ Some key) (n : ℕ) (held : n ≡ count_at key (drop at table)) where
  pub left_at : (now lost later : ℕ) → Walked cut folder (drop (count_at key (drop at table)) (drop at table)) now lost later → Walked cut folder (drop (at + n) table) now lost later
  left_at now lost later after = subst (λ (entries : List TableEntry). Walked cut folder entries now lost later) (sym (table_left cut [] table at 0 walked.stands key is n 0 held refl)) after

  pub smaller_at : length (drop (at + n) table) < length (drop at table)
  smaller_at = let less = groups.smaller_at cut [] table at 0 walked.stands key is n 0 held refl in omega (arith, less)

  -- some entry is past
  pub some_past : 1 ≤ n
  some_past =
      let less = smaller_at in
      let here = length-drop at table in
      let after = length-drop (at + n) table in
      omega (arith, less, here, after)
