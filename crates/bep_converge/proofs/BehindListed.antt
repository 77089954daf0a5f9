-- A list of all devices that aren't at the top of a name.
use Rattle.std.proofs.Common.{◌≡◌, ◌⊎◌, ◌∙◌, ◌++◌, List, [], ◌∷◌, Contains, refl, sym, ap, subst, inl, inr, ⊎_elim}
use Rattle.std.proofs.lemmas.List.Elements.{Contains-append_cases, Contains-append_left, Contains-append_right}
use Rattle.std.proofs.lemmas.Bool.{cases_eq}
use Rattle.bep_facts.specs.Decided.{OrNot, both_or_not, not_or_not, or_not_as}
use Rattle.bep_facts.specs.Members.{each_or_one, not_in_none, Contains-first, Contains-more, Contains-cons_cases}
use Rattle.bep_record.specs.declared.entry.Entry.{Entry}
use Rattle.bep_record.specs.declared.folder_kind.FolderKind.{FolderKind}
use Rattle.bep_model.specs.Tables.{Tables, Device, Folder, FileName, Shares}
use Rattle.bep_model.specs.Foreign.{IsKnown, IsFinite}
use Rattle.bep_model.proofs.CutDecided.{known_or_not}
use Rattle.bep_machine.specs.Laws.{ClusterIsFinite}
use Rattle.bep_machine.specs.Said.{tables_of_cluster}
use Rattle.bep_converge.specs.Prevails.{IsAtTop, Prevails, AllPrevail}
use Rattle.bep_converge.specs.Laws.{PrevailingIsUnique}
use Rattle.bep_converge.specs.Arrival.{Behind, HasAllBehind, HasNoneTwice, BehindIsListed}
use Rattle.bep_converge.proofs.AllCome.{at_top_or_not, at_each_top}
use Rattle.bep_converge.proofs.PlaceMoves.{same_name}
use Rattle.bep_converge.proofs.StepKept.{known_of}

-- ---- each place once

-- both are about one device and one name
abbrev SamePlace : Behind → Behind → Type 0
SamePlace other one = (other.device ≡ one.device) × (other.folder ≡ one.folder) × (other.name ≡ one.name)

same_or_not : (other one : Behind) → OrNot (SamePlace other one)
same_or_not other one =
    or_not_as
    (λ h. (h.0, h.1.0, h.1.1))
    (λ h. (h.0, (h.1, h.2)))
    (both_or_not (cases_eq other.device one.device) (both_or_not (same_name other.folder one.folder) (same_name other.name one.name)))

-- Of a list's members some are kept: one of each place, and no place is there twice.
record IsOnce (behind : List Behind) : Type 0 where
  kept : List Behind
  among : (one : Behind) → Contains kept one → Contains behind one
  covers : (one : Behind) → Contains behind one → (other : Behind) × Contains kept other × (other.device ≡ one.device) × (other.folder ≡ one.folder) × (other.name ≡ one.name)
  none_twice : HasNoneTwice kept

-- some member is about the place, or none is
listed_or_none : (one : Behind) (behind : List Behind) → ((other : Behind) × Contains behind other × SamePlace other one) ⊎ ((other : Behind) → Contains behind other → ¬ SamePlace other one)
listed_or_none one behind =
    ⊎_elim
    (λ apart. inr apart)
    (λ found. ⊎_elim (λ same. inl (found.0, found.1.0, same)) (λ apart. absurd (found.1.1 apart)) (same_or_not found.0 one))
    (each_or_one (λ (other : Behind). ¬ SamePlace other one) (λ other. not_or_not (same_or_not other one)) behind)

each_once : (behind : List Behind) → IsOnce behind
each_once [] = record { kept = []; among = λ one member. member; covers = λ one member. absurd (not_in_none one member); none_twice = tt }
each_once (first ∷ more) = with_first (each_once more)
  where
    with_first : IsOnce more → IsOnce (first ∷ more)
    with_first rest =
        ⊎_elim
        (λ found. record {
          kept = rest.kept;
          among = λ one member. Contains-more first more one (rest.among one member);
          covers = λ one member.
              ⊎_elim
              (λ same. (found.0, found.1, found.2.0 ∙ ap (λ (b : Behind). b.device) same, found.2.1 ∙ ap (λ (b : Behind). b.folder) same, found.2.2 ∙ ap (λ (b : Behind). b.name) same))
              (λ later. rest.covers one later)
              (Contains-cons_cases first more one member);
          none_twice = rest.none_twice;
        })
        (λ none. record {
          kept = first ∷ rest.kept;
          among = λ one member.
              ⊎_elim
              (λ same. subst (λ (b : Behind). Contains (first ∷ more) b) same (Contains-first first more))
              (λ later. Contains-more first more one (rest.among one later))
              (Contains-cons_cases first rest.kept one member);
          covers = λ one member.
              ⊎_elim
              (λ same. (first, Contains-first first rest.kept, ap (λ (b : Behind). b.device) same, ap (λ (b : Behind). b.folder) same, ap (λ (b : Behind). b.name) same))
              (λ later. let found = rest.covers one later in (found.0, Contains-more first rest.kept found.0 found.1, found.2, found.3, found.4))
              (Contains-cons_cases first more one member);
          none_twice = (none, rest.none_twice);
        })
        (listed_or_none first rest.kept)

module _ (unique : PrevailingIsUnique) (t : Tables) where
  -- the device shares the folder, what is named as the top prevails, and the device isn't there
  record IsBehind (one : Behind) : Type 0 where
    shares : Shares t one.device one.folder
    prevails : Prevails t one.folder one.name one.top
    not_at : ¬ IsAtTop (t.own one.device one.folder one.name) one.top

  none_behind : (one : Behind) → Contains [] one → IsBehind one
  none_behind one member = absurd (not_in_none one member)

  both_behind : (some more : List Behind) → ((one : Behind) → Contains some one → IsBehind one) → ((one : Behind) → Contains more one → IsBehind one) → (one : Behind) → Contains (some ++ more) one → IsBehind one
  both_behind some more first second one member = ⊎_elim (λ here. first one here) (λ later. second one later) (Contains-append_cases some more one member)

  -- some entry of the list is about this place
  abbrev IsListed : List Behind → Device → Folder → FileName → Type 0
  IsListed behind device folder name = (one : Behind) × Contains behind one × (one.device ≡ device) × (one.folder ≡ folder) × (one.name ≡ name)

  listed_left : (some more : List Behind) (device : Device) (folder : Folder) (name : FileName) → IsListed some device folder name → IsListed (some ++ more) device folder name
  listed_left some more device folder name listed = (listed.0, Contains-append_left some more listed.0 listed.1, listed.2, listed.3, listed.4)

  listed_right : (some more : List Behind) (device : Device) (folder : Folder) (name : FileName) → IsListed more device folder name → IsListed (some ++ more) device folder name
  listed_right some more device folder name listed = (listed.0, Contains-append_right some more listed.0 listed.1, listed.2, listed.3, listed.4)

  -- ---- one name

  module _ (folder : Folder) (name : FileName) (top : Entry) (prevails : Prevails t folder name top) where
    -- of these of the devices that share the folder
    record AreListed (shares : List (Device × FolderKind)) : Type 0 where
      behind : List Behind
      each : (one : Behind) → Contains behind one → IsBehind one
      all : (device : Device) (kind : FolderKind) → Contains shares (device, kind) → ¬ IsAtTop (t.own device folder name) top → IsListed behind device folder name

    abbrev here : Device → Behind
    here device = record { device = device; folder = folder; name = name; top = top }

    one_more : (share : Device × FolderKind) (more : List (Device × FolderKind)) → Contains (t.sharing folder) share → AreListed more → AreListed (share ∷ more)
    one_more share more shared rest =
        ⊎_elim
        (λ at. record {
          behind = rest.behind;
          each = rest.each;
          all = λ device kind member not_at.
              ⊎_elim
              (λ same. absurd (not_at (subst (λ (d : Device). IsAtTop (t.own d folder name) top) (ap (λ (s : Device × FolderKind). s.0) same) at)))
              (λ later. rest.all device kind later not_at)
              (Contains-cons_cases share more (device, kind) member);
        })
        (λ not_at_first. record {
          behind = here share.0 ∷ rest.behind;
          each = λ one member.
              ⊎_elim
              (λ same. subst (λ (b : Behind). IsBehind b) same (record { shares = (share.1, shared); prevails = prevails; not_at = not_at_first }))
              (λ later. rest.each one later)
              (Contains-cons_cases (here share.0) rest.behind one member);
          all = λ device kind member not_at.
              ⊎_elim
              (λ same. (here share.0, Contains-first (here share.0) rest.behind, ap (λ (s : Device × FolderKind). s.0) same, refl, refl))
              (λ later. let found = rest.all device kind later not_at in (found.0, Contains-more (here share.0) rest.behind found.0 found.1, found.2, found.3, found.4))
              (Contains-cons_cases share more (device, kind) member);
        })
        (at_top_or_not t share.0 folder name top prevails (share.1, shared))

    list_shares : (shares : List (Device × FolderKind)) → ((share : Device × FolderKind) → Contains shares share → Contains (t.sharing folder) share) → AreListed shares
    list_shares [] among = record { behind = []; each = none_behind; all = λ device kind member not_at. absurd (not_in_none (device, kind) member) }
    list_shares (share ∷ more) among =
        one_more share more (among share (Contains-first share more)) (list_shares more (λ other member. among other (Contains-more share more other member)))

  -- ---- all names

  record HasNames (names : List (Folder × FileName)) : Type 0 where
    behind : List Behind
    each : (one : Behind) → Contains behind one → IsBehind one
    all : (device : Device) (folder : Folder) (name : FileName) (top : Entry) → Contains names (folder, name) → Prevails t folder name top → Shares t device folder →
        ¬ IsAtTop (t.own device folder name) top → IsListed behind device folder name

  known_where_prevailing : (folder : Folder) (name : FileName) (top : Entry) → Prevails t folder name top → IsKnown t folder name
  known_where_prevailing folder name top prevails = known_of t folder name top (prevails.top_of.owner, prevails.top_of.shares, inl prevails.top_of.owned)

  module _ (finite : IsFinite t) (all_prevail : AllPrevail t) where
    with_name : (place : Folder × FileName) (more : List (Folder × FileName)) → HasNames more → HasNames (place ∷ more)
    with_name place more rest =
        ⊎_elim
        (λ known.
        let tops = all_prevail place.0 place.1 known in
        let listed = list_shares place.0 place.1 tops.0 tops.1 (t.sharing place.0) (λ share member. member) in
        record {
          behind = listed.behind ++ rest.behind;
          each = both_behind listed.behind rest.behind listed.each rest.each;
          all = λ device folder name top member prevails shares not_at.
              ⊎_elim
              (λ same.
              let there : IsListed listed.behind device place.0 place.1 =
              listed.all device shares.0
              (subst (λ (f : Folder). Contains (t.sharing f) (device, shares.0)) (sym (ap (λ (p : Folder × FileName). p.0) same)) shares.1)
              (λ at.
              let at_here : IsAtTop (t.own device folder name) tops.0 = subst (λ (p : Folder × FileName). IsAtTop (t.own device p.0 p.1) tops.0) same at in
              let prevails_here : Prevails t folder name tops.0 = subst (λ (p : Folder × FileName). Prevails t p.0 p.1 tops.0) same tops.1 in
              not_at (at_each_top unique t folder name tops.0 top (t.own device folder name) prevails_here prevails at_here)) in
              listed_left listed.behind rest.behind device folder name (subst (λ (p : Folder × FileName). IsListed listed.behind device p.0 p.1) same there))
              (λ later. listed_right listed.behind rest.behind device folder name (rest.all device folder name top later prevails shares not_at))
              (Contains-cons_cases place more (folder, name) member);
        })
        (λ unknown. record {
          behind = rest.behind;
          each = rest.each;
          all = λ device folder name top member prevails shares not_at.
              ⊎_elim
              (λ same. absurd (unknown (subst (λ (p : Folder × FileName). IsKnown t p.0 p.1) (sym same) (known_where_prevailing folder name top prevails))))
              (λ later. rest.all device folder name top later prevails shares not_at)
              (Contains-cons_cases place more (folder, name) member);
        })
        (known_or_not t finite place.0 place.1)

    list_names : (names : List (Folder × FileName)) → HasNames names
    list_names [] = record { behind = []; each = none_behind; all = λ device folder name top member prevails shares not_at. absurd (not_in_none (folder, name) member) }
    list_names (place ∷ more) = with_name place more (list_names more)

    pub behind_listed : (behind : List Behind) × HasAllBehind t behind × HasNoneTwice behind × ((one : Behind) → Contains behind one → ¬ IsAtTop (t.own one.device one.folder one.name) one.top)
    behind_listed =
        let listed = list_names finite.names in
        let once = each_once listed.behind in (
          once.kept,
          record {
            each = λ one member. let is = listed.each one (once.among one member) in (is.shares, is.prevails);
            all = λ device folder name top prevails shares not_at.
                let found = listed.all device folder name top (finite.all_known folder name (known_where_prevailing folder name top prevails)) prevails shares not_at in
                let kept = once.covers found.0 found.1 in
                (kept.0, kept.1, kept.2 ∙ found.2, kept.3 ∙ found.3, kept.4 ∙ found.4);
          },
          once.none_twice,
          λ one member. (listed.each one (once.among one member)).not_at,
        )

pub behind_is_listed_lem : ClusterIsFinite → PrevailingIsUnique → BehindIsListed
behind_is_listed_lem is_finite unique cluster sound all = behind_listed unique (tables_of_cluster cluster) (is_finite cluster sound) all
