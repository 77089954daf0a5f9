-- The names of a grouped cut's entries are its known names.
use Rattle.std.proofs.Common.{◌≡◌, ◌≢◌, ◌⊎◌, ◌↔◌, ◌&&◌, not, if◌then◌else◌, arith, length, Bool, true, false, cond, List, [], ◌∷◌, Option, Some, None, IsTrue, is_some, map, Contains, refl, sym, ap, subst, ◌∙◌, inl, inr, ⊎_elim, nat_eq}
use Rattle.std.specs.declared.cmp.Ordering.{Ordering}
use Rattle.std.specs.declared.cmp.Ordering.TheVariants.{Less, Equal, Greater}
use Rattle.std.specs.Ordering.{nat_cmp, eq_by_cmp, is_eq, ordering_then, ordering_reverse}
use Rattle.std.specs.Cmp.{Equal-is}
use Rattle.std.specs.Cmp.Lexicographic.{slice_cmp, pointwise, nat_list_cmp_total, bytes_decides}
use Rattle.std.specs.FinMap.{get, insert, contains_key, entries, keys, get-empty, get-insert, entries-insert, len-empty, len-entries, same_map, empty, put}
use Rattle.std.specs.FinMap.Entries.{by_order}
use Rattle.std.proofs.lemmas.Bool.{false≢true}
use Rattle.std.proofs.lemmas.Cmp.{tied_itself}
use Rattle.std.proofs.lemmas.Map.Lookups.{exact_bytes}
use Rattle.bep_facts.specs.Members.{not_in_none, Contains-first, Contains-more, Contains-cons_cases}
use Rattle.bep_facts.specs.Orders.{order_cases, Equal_from_same, texts_total, texts_exact}
use Rattle.bep_facts.specs.Maps.{same_key, key_has_value}
use Rattle.bep_model.specs.Tables.{Folder, FileName}
use Rattle.bep_model.specs.Settled.{key_cmp}
use Rattle.bep_tables.specs.declared.cut.CutParts.{CutParts}
use Rattle.bep_tables.specs.declared.table.entry.TableEntry.{TableEntry}
use Rattle.bep_tables.specs.Cut.{IsCut}
use Rattle.bep_tables.specs.Kept.{kept, from_kept}
use Rattle.bep_tables.specs.Laws.{NamesAreKnown}
use Rattle.bep_tables.specs.Listed.{Listed, AreInOrder, IsGrouped, key_at, listed, is_of, group_of, cut_listed}
use Rattle.bep_tables.specs.Names.{Names, known_names}
use Rattle.bep_audit.specs.Group.{IsGroupOf, HasEntry, GroupIsKnown}
use Rattle.bep_report.specs.inner.Known.{begins_with, names_in}

-- ---- definitions

-- the entry's name as well, if it is of the folder
unfoldable with_entry : Folder → Names → Listed → Names
with_entry folder names one = if pointwise nat_eq one.folder folder then insert names one.name tt else names

-- the names of these entries, as far as they are of the folder
abbrev names_among : Folder → List Listed → Names
names_among folder [] = empty
names_among folder (one ∷ more) = with_entry folder (names_among folder more) one

-- ---- a name that is added again

insert_twice : (m : Names) (name : FileName) → insert (insert m name tt) name tt ≡ insert m name tt
insert_twice m name = same_map nat_list_cmp_total exact_bytes (insert (insert m name tt) name tt) (insert m name tt) (λ q. get-insert nat_list_cmp_total (insert m name tt) name tt q ∙ cases q (eq_by_cmp (slice_cmp nat_cmp) q name) refl)
  where
    cases : (q : FileName) (b : Bool) → eq_by_cmp (slice_cmp nat_cmp) q name ≡ b → cond b (Some tt) (get (insert m name tt) q) ≡ get (insert m name tt) q
    cases q true same = sym (get-insert nat_list_cmp_total m name tt q ∙ ap (λ b. cond b (Some tt) (get m q)) same)
    cases q false apart = refl

entry_twice : (folder : Folder) (m : Names) (last one : Listed) → key_at last ≡ key_at one → with_entry folder (with_entry folder m last) one ≡ with_entry folder m last
unfolding with_entry
entry_twice folder m last one same = subst (λ (key : Folder × FileName). added (pointwise nat_eq key.0 folder) key.1 (added (pointwise nat_eq last.folder folder) last.name m) ≡ added (pointwise nat_eq last.folder folder) last.name m) same (twice (pointwise nat_eq last.folder folder))
  where
    added : Bool → FileName → Names → Names
    added b name names = cond b (insert names name tt) names

    twice : (b : Bool) → cond b (insert (cond b (insert m last.name tt) m) last.name tt) (cond b (insert m last.name tt) m) ≡ cond b (insert m last.name tt) m
    twice true = insert_twice m last.name
    twice false = refl

again_adds_nothing : (folder : Folder) (list : List Listed) (one : Listed) → begins_with (key_at one) list ≡ true → with_entry folder (names_among folder list) one ≡ names_among folder list
again_adds_nothing folder [] one begins = absurd (false≢true begins)
again_adds_nothing folder (first ∷ more) one begins =
    entry_twice folder (names_among folder more) first one (texts_exact (key_at first) (key_at one) ((Equal-is _).0 begins))

-- ---- whose names are there

abbrev HasKey : List Listed → Folder × FileName → Type 0
HasKey list key = (one : Listed) × Contains list one × (key_at one ≡ key)

entry_adds : (folder : Folder) (m : Names) (one : Listed) (name : FileName) → IsTrue (contains_key (with_entry folder m one) name) ↔ (IsTrue (contains_key m name) ⊎ (key_at one ≡ (folder, name)))
unfolding with_entry
entry_adds folder m one name = cases (pointwise nat_eq one.folder folder) refl
  where
    Added : Bool → Type 0
    Added b = IsTrue (contains_key (cond b (insert m one.name tt) m) name) ↔ (IsTrue (contains_key m name) ⊎ (key_at one ≡ (folder, name)))

    inserted : (b : Bool) → eq_by_cmp (slice_cmp nat_cmp) name one.name ≡ b → IsTrue (is_some (cond b (Some tt) (get m name))) ↔ (IsTrue (contains_key m name) ⊎ (one.name ≡ name))
    inserted true same = (λ _. inr (sym (same_key exact_bytes name one.name same)), λ _. refl)
    inserted false apart = (
      λ is. inl is,
      λ either. ⊎_elim (λ is. is) (λ same. absurd (let tied : eq_by_cmp (slice_cmp nat_cmp) name one.name ≡ true = subst (λ n. eq_by_cmp (slice_cmp nat_cmp) name n ≡ true) (sym same) (ap is_eq (tied_itself nat_list_cmp_total name)) in cc)) either,
    )

    cases : (b : Bool) → pointwise nat_eq one.folder folder ≡ b → Added b
    cases true here =
        let folder_is : one.folder ≡ folder = (bytes_decides one.folder folder).0 here in
        let both = inserted (eq_by_cmp (slice_cmp nat_cmp) name one.name) refl in
        let answer = ap is_some (get-insert nat_list_cmp_total m one.name tt name) in (
          λ is. ⊎_elim (λ was. inl was) (λ same. inr (λ i. (folder_is i, same i))) (both.0 (subst IsTrue answer is)),
          λ either. subst IsTrue (sym answer) (both.1 (⊎_elim (λ was. inl was) (λ key. inr (ap (λ k. k.1) key)) either)),
        )
    cases false there = (
      λ is. inl is,
      λ either. ⊎_elim (λ was. was) (λ key. absurd (let is : pointwise nat_eq one.folder folder ≡ true = (bytes_decides one.folder folder).1 (ap (λ k. k.0) key) in cc)) either,
    )

nothing : (name : FileName) → IsTrue (contains_key (empty {X = Unit {0}} {R = slice_cmp nat_cmp}) name) → ⊥
nothing name is = let none : contains_key (empty {X = Unit {0}} {R = slice_cmp nat_cmp}) name ≡ false = ap is_some (get-empty (slice_cmp nat_cmp) name) in cc

names_of_entries : (folder : Folder) (list : List Listed) (name : FileName) → IsTrue (contains_key (names_among folder list) name) ↔ HasKey list (folder, name)
names_of_entries folder [] name = (λ is. absurd (nothing name is), λ has. absurd (not_in_none has.0 has.1))
names_of_entries folder (one ∷ more) name =
    let rest = names_of_entries folder more name in
    let here = entry_adds folder (names_among folder more) one name in (
      λ is.
          ⊎_elim
          (λ was. let later = rest.0 was in (later.0, Contains-more one more later.0 later.1, later.2))
          (λ key. (one, Contains-first one more, key))
          (here.0 is),
      λ has.
          ⊎_elim
          (λ same. here.1 (inr (ap key_at same ∙ has.2)))
          (λ later. here.1 (inl (rest.1 (has.0, later, has.2))))
          (Contains-cons_cases one more has.0 has.1),
    )

-- ---- the names of entries in order rise

tied_both_ways : (o p : Ordering) → o ≢ Greater → p ≢ Greater → p ≡ ordering_reverse o → o ≡ Equal
tied_both_ways Less p up down is = absurd (down is)
tied_both_ways Equal p up down is = refl
tied_both_ways Greater p up down is = absurd (up refl)

-- where an entry comes again, the next one is of its name
comes_next : (one : Listed) (more : List Listed) (later : Listed) → AreInOrder (one ∷ more) → Contains more later → key_at later ≡ key_at one → begins_with (key_at one) more ≡ true
comes_next one [] later order there same = absurd (not_in_none later there)
comes_next one (first ∷ rest) later order there same = ap is_eq (⊎_elim here behind (Contains-cons_cases first rest later there))
  where
    here : first ≡ later → key_cmp (key_at first) (key_at one) ≡ Equal
    here is = Equal_from_same texts_total (key_at first) (key_at one) (ap key_at is ∙ same)

    behind : Contains rest later → key_cmp (key_at first) (key_at one) ≡ Equal
    behind member =
        tied_both_ways
        (key_cmp (key_at first) (key_at one))
        (key_cmp (key_at one) (key_at first))
        (subst (λ key. key_cmp (key_at first) key ≢ Greater) same (order.1.0 later member))
        (order.0 first (Contains-first first rest))
        (texts_total.antisymm (key_at one) (key_at first))

later_above : (folder : Folder) (one : Listed) (more : List Listed) (name : FileName) → AreInOrder (one ∷ more) → one.folder ≡ folder → begins_with (key_at one) more ≡ false → HasKey more (folder, name) → slice_cmp nat_cmp one.name name ≡ Less
later_above folder one more name order here last has = ⊎_elim (λ less. less) (λ either. absurd (⊎_elim not_tied not_below either)) (order_cases (slice_cmp nat_cmp one.name name))
  where
    not_tied : slice_cmp nat_cmp one.name name ≢ Equal
    not_tied tied =
        let same : key_at has.0 ≡ key_at one = has.2 ∙ (λ i. (sym here i, sym (exact_bytes one.name name tied) i)) in
        let again = comes_next one more has.0 order has.1 same in
        cc

    by_names : key_cmp (key_at one) (folder, name) ≡ slice_cmp nat_cmp one.name name
    by_names = ap (λ o. ordering_then o (slice_cmp nat_cmp one.name name)) (Equal_from_same nat_list_cmp_total one.folder folder here)

    not_below : slice_cmp nat_cmp one.name name ≢ Greater
    not_below below = subst (λ key. key_cmp (key_at one) key ≢ Greater) has.2 (order.0 has.0 has.1) (by_names ∙ below)

put_first : (list : List (FileName × Unit {0})) (name : FileName) → ((key : FileName) → Contains (map (λ e. e.0) list) key → slice_cmp nat_cmp name key ≡ Less) → put (slice_cmp nat_cmp) name tt list ≡ (name, tt) ∷ list
put_first [] name above = refl
put_first (e ∷ more) name above = ap (λ o. by_order o ((name, tt) ∷ e ∷ more) ((e.0, tt) ∷ more) (e ∷ put (slice_cmp nat_cmp) name tt more)) (above e.0 (Contains-first e.0 (map (λ e. e.0) more)))

insert_first : (m : Names) (name : FileName) → ((key : FileName) → Contains (keys m) key → slice_cmp nat_cmp name key ≡ Less) → keys (insert m name tt) ≡ name ∷ keys m
insert_first m name above = ap (map (λ e. e.0)) (entries-insert nat_list_cmp_total m name tt ∙ put_first (entries m) name above)

no_keys : (list : List (FileName × Unit {0})) → length list ≡ 0 → map (λ e. e.0) list ≡ []
no_keys [] none = refl
no_keys (e ∷ more) none = absurd (omega (arith, none))

names_rise : (folder : Folder) (list : List Listed) → AreInOrder list → keys (names_among folder list) ≡ names_in folder list
unfolding with_entry
names_rise folder [] order = no_keys (entries (names_among folder [])) (sym (len-entries (names_among folder [])) ∙ len-empty (slice_cmp nat_cmp) (Unit {0}))
names_rise folder (one ∷ more) order = cases (names_rise folder more order.1) (pointwise nat_eq one.folder folder) (begins_with (key_at one) more) refl refl
  where
    names : Names
    names = names_among folder more

    Rise : Bool → Bool → Type 0
    Rise here again = keys (cond here (insert names one.name tt) names) ≡ (if here && not again then one.name ∷ names_in folder more else names_in folder more)

    cases : keys names ≡ names_in folder more → (here again : Bool) → pointwise nat_eq one.folder folder ≡ here → begins_with (key_at one) more ≡ again → Rise here again
    cases rest false again there comes = rest
    cases rest true true here comes = ap keys (subst (λ b. cond b (insert names one.name tt) names ≡ names) here (again_adds_nothing folder more one comes)) ∙ rest
    cases rest true false here comes =
        insert_first names one.name (λ key there.
        later_above folder one more key order ((bytes_decides one.folder folder).0 here) comes
        ((names_of_entries folder more key).0 ((key_has_value nat_list_cmp_total exact_bytes names key).0 there)))
        ∙ ap (λ names. one.name ∷ names) rest

-- ---- the known names

of_key : (key : Folder × FileName) (list : List Listed) → HasKey list key ↔ HasEntry (group_of key list)
of_key key list = (
  λ has. (has.0, kept (is_of key) list has.0 has.1 (subst (λ k. is_eq (key_cmp k key) ≡ true) (sym has.2) (ap is_eq (tied_itself texts_total key)))),
  λ has. let found = from_kept (is_of key) list has.0 has.1 in (has.0, found.0, texts_exact (key_at has.0) key ((Equal-is _).0 found.1)),
)

group_is : (cut : CutParts) (key : Folder × FileName) → IsGroupOf cut key (group_of key (cut_listed cut))
group_is cut key one = (
  λ member. let found = from_kept (is_of key) (cut_listed cut) one member in (found.0, texts_exact (key_at one) key ((Equal-is _).0 found.1)),
  λ has. kept (is_of key) (cut_listed cut) one has.0 (subst (λ k. is_eq (key_cmp k key) ≡ true) (sym has.1) (ap is_eq (tied_itself texts_total key))),
)

same_units : (one other : Option (Unit {0})) → IsTrue (is_some one) ↔ IsTrue (is_some other) → one ≡ other
same_units None None both = refl
same_units None (Some y) both = absurd (let is = both.1 refl in cc)
same_units (Some x) None both = absurd (let is = both.0 refl in cc)
same_units (Some x) (Some y) both = refl

same_names : (cut : CutParts) (table : List TableEntry) (folder : Folder) → NamesAreKnown → GroupIsKnown → IsCut cut → IsGrouped (cut_listed cut) table → names_among folder (map listed table) ≡ known_names cut folder
same_names cut table folder known by_group is_cut grouped = same_map nat_list_cmp_total exact_bytes (names_among folder (map listed table)) (known_names cut folder) (λ name.
    let key : Folder × FileName = (folder, name) in
    let there = names_of_entries folder (map listed table) name in
    let entry = of_key key (map listed table) in
    let group = grouped.groups key in
    let said = by_group cut key (group_of key (cut_listed cut)) is_cut (group_is cut key) in
    let is = known cut folder name is_cut in
    same_units (get (names_among folder (map listed table)) name) (get (known_names cut folder) name) (
      λ has. is.1 (said.0 (subst HasEntry group (entry.0 (there.0 has)))),
      λ has. there.1 (entry.1 (subst HasEntry (sym group) (said.1 (is.0 has)))),
    ))

pub all_known : (cut : CutParts) (table : List TableEntry) (folder : Folder) → NamesAreKnown → GroupIsKnown → IsCut cut → IsGrouped (cut_listed cut) table → names_in folder (map listed table) ≡ keys (known_names cut folder)
all_known cut table folder known by_group is_cut grouped = sym (names_rise folder (map listed table) grouped.in_order) ∙ ap keys (same_names cut table folder known by_group is_cut grouped)
