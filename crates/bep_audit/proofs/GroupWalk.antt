-- A walk over the groups of a cut's table beside rows that rise.
use Rattle.std.proofs.Common.{◌≡◌, ◌≢◌, ◌⊎◌, ◌↔◌, ◌≤◌, ◌<◌, ◌+◌, ◌-◌, ℕ, zero, suc, List, [], ◌∷◌, map, length, take, drop, Contains, Option, Some, refl, sym, ap, subst, ◌∙◌, inl, inr, ⊎_elim, arith, length-drop}
use Rattle.std.specs.declared.cmp.Ordering.TheVariants.{Less, Equal, Greater}
use Rattle.bep_facts.specs.Members.{Contains-image, Contains-from_image, not_in_none}
use Rattle.bep_facts.specs.Orders.{order_cases, texts_total, texts_exact, Equal_from_same}
use Rattle.bep_model.specs.declared.row.Row.{Row}
use Rattle.bep_model.specs.Foreign.{IsKnown}
use Rattle.bep_model.specs.Settled.{key_of, key_cmp, Rise}
use Rattle.bep_tables.specs.declared.cut.CutParts.{CutParts}
use Rattle.bep_tables.specs.declared.table.entry.TableEntry.{TableEntry}
use Rattle.bep_tables.specs.Cut.{IsCut, tables_of}
use Rattle.bep_tables.specs.Listed.{Listed, key_at, listed, AreInOrder, IsGrouped, cut_listed}
use Rattle.bep_tables.specs.Said.{EntriesAreHeld, HoldersShare}
use Rattle.bep_audit.specs.Grouped.{same_group_same}
use Rattle.bep_audit.specs.Group.{IsGroupOf}
use Rattle.bep_audit.specs.inner.Walk.{next_key, count_at, rows_about}
use Rattle.bep_audit.proofs.GroupFacts.{known_by_group}
use Rattle.bep_audit.proofs.NameWalk.{Key, IsUnder, Remains, IsNext, in_either, from_front, from_rest, under_itself, is_next, entries_part, rows_part, was_left, not_left, order_rest, rise_rest, shorter}

-- keys are the same or not
pub same_or_not : (one other : Key) → (one ≡ other) ⊎ (one ≢ other)
same_or_not one other =
    ⊎_elim
    (λ less. inr (λ same. let e : Less ≡ Equal = sym less ∙ Equal_from_same texts_total one other same in absurd (cc)))
    (⊎_elim
    (λ equal. inl (texts_exact one other equal))
    (λ greater. inr (λ same. let e : Greater ≡ Equal = sym greater ∙ Equal_from_same texts_total one other same in absurd (cc))))
    (order_cases (key_cmp one other))

-- ---- the walk
module _ (cut : CutParts) (rows : List Row) where
  -- these entries and rows are left
  pub record Stands (entries : List TableEntry) (rest : List Row) : Type 0 where
    pub order : AreInOrder (map listed entries)
    pub rise : Rise rest
    pub listed_all : (entry : TableEntry) → Contains entries entry → Contains (cut_listed cut) (listed entry)
    pub entries_left : (one : Listed) → Contains (cut_listed cut) one → Remains entries rest (key_at one) → Contains (map listed entries) one
    pub of_rows : (row : Row) → Contains rest row → Contains rows row
    pub rows_left : (row : Row) → Contains rows row → Remains entries rest (key_of row) → Contains rest row

  module _ (table : List TableEntry) (grouped : IsGrouped (cut_listed cut) table) where
    -- it starts
    pub stands_at_first : Rise rows → Stands table rows
    stands_at_first rise = record {
      order = grouped.in_order;
      rise = rise;
      listed_all = λ entry member. same_group_same (listed entry) (map listed table) (cut_listed cut) (grouped.groups (key_at (listed entry))) (Contains-image listed table entry member);
      entries_left = λ one member left. same_group_same one (cut_listed cut) (map listed table) (sym (grouped.groups (key_at one))) member;
      of_rows = λ row member. member;
      rows_left = λ row member left. member;
    }

    no_group : (key : Key) → ¬ Remains table rows key → IsGroupOf cut key []
    no_group key none one = (
      λ member. absurd (not_in_none one member),
      λ there.
          let image = Contains-from_image listed table one (same_group_same one (cut_listed cut) (map listed table) (sym (grouped.groups (key_at one))) there.0) in
          absurd (none (inl (image.0, image.1, ap key_at image.2 ∙ there.1))),
    )

    -- what isn't in the table isn't known
    pub unlisted_is_unknown : EntriesAreHeld → HoldersShare → IsCut cut → (key : Key) → ¬ Remains table rows key → ¬ IsKnown (tables_of cut) key.0 key.1
    unlisted_is_unknown held share is_cut key none known =
        let counted = (known_by_group held cut is_cut key [] (no_group key none) share).1 known in
        not_in_none counted.0 counted.1

  module _ (entries : List TableEntry) (rest : List Row) (stands : Stands entries rest) (key : Key) (is : next_key entries rest ≡ Some key) where
    pub next : IsNext entries rest key
    next = is_next entries rest key stands.order stands.rise is

    -- the entries at the front are the name's
    pub front_is_group : IsGroupOf cut key (map listed (take (count_at key entries) entries))
    front_is_group one = (
      λ member.
          let image = Contains-from_image listed (take (count_at key entries) entries) one member in (
            subst (Contains (cut_listed cut)) image.2 (stands.listed_all image.0 (from_front entries (count_at key entries) image.0 image.1)),
            ap key_at (sym image.2) ∙ (entries_part entries rest key stands.order stands.rise next).here image.0 image.1,
          ),
      λ there. of_front there.1 (Contains-from_image listed entries one (stands.entries_left one there.0 (subst (Remains entries rest) (sym there.1) next.remains))),
    )
      where
        of_front : key_at one ≡ key → (entry : TableEntry) × Contains entries entry × (listed entry ≡ one) → Contains (map listed (take (count_at key entries) entries)) one
        of_front here image =
            ⊎_elim
            (λ front. subst (Contains (map listed (take (count_at key entries) entries))) image.2 (Contains-image listed (take (count_at key entries) entries) image.0 front))
            (λ later.
            let under = (entries_part entries rest key stands.order stands.rise next).later image.0 later in
            absurd (under_itself key (subst (IsUnder key) (ap key_at image.2 ∙ here) under)))
            (in_either entries (count_at key entries) image.0 image.1)

    -- the rows at the front are the name's
    pub front_is_about : (row : Row) → Contains (take (rows_about key rest) rest) row → key_of row ≡ key
    front_is_about = (rows_part entries rest key stands.order stands.rise next).here

    pub rows_are : (row : Row) → key_of row ≡ key → Contains (take (rows_about key rest) rest) row ↔ Contains rows row
    rows_are row here = (
      λ member. stands.of_rows row (from_front rest (rows_about key rest) row member),
      λ member.
          ⊎_elim (λ front. front)
          (λ later. absurd (under_itself key (subst (IsUnder key) here ((rows_part entries rest key stands.order stands.rise next).later row later))))
          (in_either rest (rows_about key rest) row (stands.rows_left row member (subst (Remains entries rest) (sym here) next.remains))),
    )

    abbrev pub Left : Key → Type 0
    Left other = Remains (drop (count_at key entries) entries) (drop (rows_about key rest) rest) other

    entries_stay : (one : Listed) → Contains (cut_listed cut) one → Left (key_at one) → Contains (map listed (drop (count_at key entries) entries)) one
    entries_stay one member left = of_rest (Contains-from_image listed entries one (stands.entries_left one member (was_left entries rest key stands.order stands.rise next (key_at one) left))) where
      of_rest : (entry : TableEntry) × Contains entries entry × (listed entry ≡ one) → Contains (map listed (drop (count_at key entries) entries)) one
      of_rest image =
          ⊎_elim
          (λ front.
          let here : key_at one ≡ key = ap key_at (sym image.2) ∙ (entries_part entries rest key stands.order stands.rise next).here image.0 front in
          absurd (not_left entries rest key stands.order stands.rise next (subst Left here left)))
          (λ later. subst (Contains (map listed (drop (count_at key entries) entries))) image.2 (Contains-image listed (drop (count_at key entries) entries) image.0 later))
          (in_either entries (count_at key entries) image.0 image.1)

    rows_stay : (row : Row) → Contains rows row → Left (key_of row) → Contains (drop (rows_about key rest) rest) row
    rows_stay row member left =
        ⊎_elim
        (λ front. absurd (not_left entries rest key stands.order stands.rise next (subst Left (front_is_about row front) left)))
        (λ later. later)
        (in_either rest (rows_about key rest) row (stands.rows_left row member (was_left entries rest key stands.order stands.rise next (key_of row) left)))

    -- it goes on
    pub stands_afterwards : Stands (drop (count_at key entries) entries) (drop (rows_about key rest) rest)
    stands_afterwards = record {
      order = order_rest (count_at key entries) entries stands.order;
      rise = rise_rest key rest stands.rise;
      listed_all = λ entry member. stands.listed_all entry (from_rest entries (count_at key entries) entry member);
      entries_left = entries_stay;
      of_rows = λ row member. stands.of_rows row (from_rest rest (rows_about key rest) row member);
      rows_left = rows_stay;
    }

-- ---- the walk by its places
drop_none : {X : Type 0} (n : ℕ) → ◌≡◌ {A = List X} (drop n []) []
drop_none zero = refl
drop_none (suc n) = refl

drop_more : {X : Type 0} (at n : ℕ) (xs : List X) → drop (at + n) xs ≡ drop n (drop at xs)
drop_more zero n xs = let same : 0 + n ≡ n = omega arith in ap (λ k. drop k xs) same
drop_more (suc at) n [] = drop_none (suc at + n) ∙ sym (drop_none n)
drop_more (suc at) n (x ∷ xs) = let same : suc at + n ≡ suc (at + n) = omega arith in ap (λ k. drop k (x ∷ xs)) same ∙ drop_more at n xs

pub within_at : {X : Type 0} (xs : List X) (at n : ℕ) → at ≤ length xs → n ≤ length (drop at xs) → at + n ≤ length xs
within_at xs at n inside few = let rest = length-drop at xs in omega (arith, inside, few, rest)

module _ (cut : CutParts) (rows : List Row) (table : List TableEntry) (at place : ℕ) (stands : Stands cut rows (drop at table) (drop place rows)) (key : Key) (is : next_key (drop at table) (drop place rows) ≡ Some key) where
  pub group_at : (group : List TableEntry) → group ≡ take (count_at key (drop at table)) (drop at table) → IsGroupOf cut key (map listed group)
  group_at group front = subst (λ (g : List TableEntry). IsGroupOf cut key (map listed g)) (sym front) (front_is_group cut rows (drop at table) (drop place rows) stands key is)

  pub about_at : (about : List Row) → about ≡ take (rows_about key (drop place rows)) (drop place rows) → (row : Row) → Contains about row → key_of row ≡ key
  about_at about front = subst (λ (a : List Row). (row : Row) → Contains a row → key_of row ≡ key) (sym front) (front_is_about cut rows (drop at table) (drop place rows) stands key is)

  module _ (n m : ℕ) (held : n ≡ count_at key (drop at table)) (about : m ≡ rows_about key (drop place rows)) where
    pub table_left : drop (at + n) table ≡ drop (count_at key (drop at table)) (drop at table)
    table_left = drop_more at n table ∙ ap (λ k. drop k (drop at table)) held

    pub rows_left_at : drop (place + m) rows ≡ drop (rows_about key (drop place rows)) (drop place rows)
    rows_left_at = drop_more place m rows ∙ ap (λ k. drop k (drop place rows)) about

    pub smaller_at : length (drop (at + n) table) + length (drop (place + m) rows) < length (drop at table) + length (drop place rows)
    smaller_at =
        let one = ap length table_left in
        let other = ap length rows_left_at in
        let less = shorter (drop at table) (drop place rows) key stands.order stands.rise (is_next (drop at table) (drop place rows) key stands.order stands.rise is) in
        omega (arith, one, other, less)

take_whole : {X : Type 0} (xs : List X) → take (length xs) xs ≡ xs
take_whole [] = refl
take_whole (x ∷ xs) = ap (λ l. x ∷ l) (take_whole xs)

-- what is left from a place on
pub rest_is : {X : Type 0} (xs : List X) (at : ℕ) → take (length xs - at) (drop at xs) ≡ drop at xs
rest_is xs at = ap (λ k. take k (drop at xs)) (sym (length-drop at xs)) ∙ take_whole (drop at xs)

pub next_at : (table : List TableEntry) (rows : List Row) (at place : ℕ) (found : Option Key) → found ≡ next_key (take (length table - at) (drop at table)) (take (length rows - place) (drop place rows)) → next_key (drop at table) (drop place rows) ≡ found
next_at table rows at place found is = sym (is ∙ (λ i. next_key (rest_is table at i) (rest_is rows place i)))
