-- A walk over the names of a cut's entries and of rows that rise, with the least failure so far.
use Rattle.std.proofs.Common.{◌≡◌, ◌≢◌, ◌⊎◌, ◌≤◌, ◌<◌, ◌+◌, ℕ, zero, suc, Bool, true, false, cond, List, [], ◌∷◌, map, length, take, drop, Contains, Some, None, refl, sym, ap, subst, ◌∙◌, inl, inr, ⊎_elim, arith, length-append}
use Rattle.std.specs.declared.cmp.Ordering.{Ordering}
use Rattle.std.specs.declared.cmp.Ordering.TheVariants.{Less, Equal, Greater}
use Rattle.std.specs.Ordering.{is_lt, is_eq, is_gt, ordering_reverse}
use Rattle.std.specs.Cmp.{Equal-is}
use Rattle.std.proofs.lemmas.Cmp.{tied_itself, upto}
use Rattle.std.proofs.lemmas.List.{take-append-drop}
use Rattle.std.proofs.lemmas.List.Elements.{Contains-append_left, Contains-append_right, Contains-append_cases}
use Rattle.std.proofs.lemmas.Map.Keys.{sorted_tail}
use Rattle.bep_facts.specs.Members.{Contains-image, Contains-cons_cases, Contains-first, Contains-more, Contains-one, not_in_none}
use Rattle.bep_facts.specs.Orders.{Less_from_is_lt, texts_total, texts_exact, not_less_itself}
use Rattle.bep_facts.specs.Rising.{below_later}
use Rattle.bep_model.specs.declared.row.Row.{Row}
use Rattle.bep_model.specs.Tables.{Folder, FileName}
use Rattle.bep_model.specs.Settled.{key_of, key_cmp, Rise}
use Rattle.bep_tables.specs.declared.table.entry.TableEntry.{TableEntry}
use Rattle.bep_tables.specs.Listed.{key_at, listed, AreInOrder}
use Rattle.bep_audit.specs.inner.Walk.{next_key, count_at, rows_about}
use Rattle.bep_audit.proofs.RowsFacts.{rows_sorted, rise_from_sorted}

abbrev pub Key : Type 0
Key = Folder × FileName

-- ---- the order of keys
-- the one isn't above the other
abbrev pub IsUpTo : Key → Key → Type 0
IsUpTo one other = is_gt (key_cmp one other) ≡ false

-- it is below the other
abbrev pub IsUnder : Key → Key → Type 0
IsUnder one other = key_cmp one other ≡ Less

up_to : (one other : Key) → key_cmp one other ≢ Greater → IsUpTo one other
up_to one other not = cases (key_cmp one other) refl where
  cases : (o : Ordering) → key_cmp one other ≡ o → is_gt o ≡ false
  cases Less e = refl
  cases Equal e = refl
  cases Greater e = absurd (not e)

up_to_itself : (key : Key) → IsUpTo key key
up_to_itself key = ap is_gt (tied_itself texts_total key)

under_up_to : (one other : Key) → IsUnder one other → IsUpTo one other
under_up_to one other less = ap is_gt less

chain : (one two three : Key) → IsUpTo one two → IsUpTo two three → IsUpTo one three
chain one two three = upto texts_total one two three

-- what isn't above is the same or below
same_or_under : (one other : Key) → IsUpTo one other → (one ≡ other) ⊎ IsUnder one other
same_or_under one other not = cases (key_cmp one other) refl not where
  cases : (o : Ordering) → key_cmp one other ≡ o → is_gt o ≡ false → (one ≡ other) ⊎ IsUnder one other
  cases Less e h = inr e
  cases Equal e h = inl (texts_exact one other e)
  cases Greater e h = absurd (cc)

pub under_itself : (key : Key) → ¬ IsUnder key key
under_itself key = not_less_itself texts_total key

under_then_up_to : (one two three : Key) → IsUnder one two → IsUpTo two three → IsUnder one three
under_then_up_to one two three less not =
    ⊎_elim
    (λ same. subst (IsUnder one) same less)
    (λ under. texts_total.trans one two three less under)
    (same_or_under two three not)

not_same_under : (one other : Key) → IsUpTo one other → is_eq (key_cmp other one) ≡ false → IsUnder one other
not_same_under one other not apart =
    ⊎_elim
    (λ same. let e : is_eq (key_cmp other one) ≡ true = ap (λ k. is_eq (key_cmp other k)) same ∙ ap is_eq (tied_itself texts_total other) in absurd (cc))
    (λ under. under)
    (same_or_under one other not)

-- ---- the front of a list and what is left
module _ {X : Type 0} (xs : List X) (n : ℕ) where
  pub in_either : (x : X) → Contains xs x → Contains (take n xs) x ⊎ Contains (drop n xs) x
  in_either x member = Contains-append_cases (take n xs) (drop n xs) x (subst (λ l. Contains l x) (sym (take-append-drop n xs)) member)

  pub from_front : (x : X) → Contains (take n xs) x → Contains xs x
  from_front x member = subst (λ l. Contains l x) (take-append-drop n xs) (Contains-append_left (take n xs) (drop n xs) x member)

  pub from_rest : (x : X) → Contains (drop n xs) x → Contains xs x
  from_rest x member = subst (λ l. Contains l x) (take-append-drop n xs) (Contains-append_right (take n xs) (drop n xs) x member)

  pub parts_length : length (take n xs) + length (drop n xs) ≡ length xs
  parts_length = sym (length-append (take n xs) (drop n xs)) ∙ ap length (take-append-drop n xs)

-- the first n have the key, and what is left is above it
pub record IsSplit {X : Type 0} (key_x : X → Key) (key : Key) (xs : List X) (n : ℕ) : Type 0 where
  pub here : (x : X) → Contains (take n xs) x → key_x x ≡ key
  pub later : (x : X) → Contains (drop n xs) x → IsUnder key (key_x x)

abbrev pub entry_key : TableEntry → Key
entry_key entry = key_at (listed entry)

-- the first entry isn't above the others
first_entry : (entry : TableEntry) (more : List TableEntry) → AreInOrder (map listed (entry ∷ more)) → (other : TableEntry) → Contains (entry ∷ more) other → IsUpTo (entry_key entry) (entry_key other)
first_entry entry more order other member =
    ⊎_elim
    (λ same. subst (λ e. IsUpTo (entry_key entry) (entry_key e)) same (up_to_itself (entry_key entry)))
    (λ later. up_to (entry_key entry) (entry_key other) (order.0 (listed other) (Contains-image listed more other later)))
    (Contains-cons_cases entry more other member)

one_plus : (n : ℕ) → 1 + n ≡ suc n
one_plus n = omega arith

pub entries_split : (key : Key) (entries : List TableEntry) → AreInOrder (map listed entries) → ((entry : TableEntry) → Contains entries entry → IsUpTo key (entry_key entry)) → IsSplit entry_key key entries (count_at key entries)
entries_split key [] order above = record { here = λ x member. absurd (not_in_none x member); later = λ x member. absurd (not_in_none x member) }
entries_split key (entry ∷ more) order above =
    cases (is_eq (key_cmp (entry_key entry) key)) refl (entries_split key more order.1 (λ x member. above x (Contains-more entry more x member)))
  where
    cases : (b : Bool) → is_eq (key_cmp (entry_key entry) key) ≡ b → IsSplit entry_key key more (count_at key more) → IsSplit entry_key key (entry ∷ more) (cond b (1 + count_at key more) 0)
    cases true tied rest = subst (IsSplit entry_key key (entry ∷ more)) (sym (one_plus (count_at key more))) (record {
      here = λ x member.
          ⊎_elim
          (λ same. subst (λ e. entry_key e ≡ key) same (texts_exact (entry_key entry) key ((Equal-is _).0 tied)))
          (λ later. rest.here x later)
          (Contains-cons_cases entry (take (count_at key more) more) x member);
      later = λ x member. rest.later x member;
    })
    cases false apart rest =
        let under : IsUnder key (entry_key entry) = not_same_under key (entry_key entry) (above entry (Contains-first entry more)) apart in
        record {
          here = λ x member. absurd (not_in_none x member);
          later = λ x member. under_then_up_to key (entry_key entry) (entry_key x) under (first_entry entry more order x member);
        }

-- the first row is below the others
first_row : (row : Row) (more : List Row) → Rise (row ∷ more) → (other : Row) → Contains more other → IsUnder (key_of row) (key_of other)
first_row row more rise other member = below_later key_cmp key_of row more (rows_sorted (row ∷ more) rise) other member

pub rise_later : (row : Row) (more : List Row) → Rise (row ∷ more) → Rise more
rise_later row more rise = rise_from_sorted more (sorted_tail key_cmp (key_of row) (map key_of more) (rows_sorted (row ∷ more) rise))

pub rows_split : (key : Key) (rows : List Row) → Rise rows → ((row : Row) → Contains rows row → IsUpTo key (key_of row)) → IsSplit key_of key rows (rows_about key rows)
rows_split key [] rise above = record { here = λ x member. absurd (not_in_none x member); later = λ x member. absurd (not_in_none x member) }
rows_split key (row ∷ more) rise above = cases (is_eq (key_cmp (key_of row) key)) refl where
  cases : (b : Bool) → is_eq (key_cmp (key_of row) key) ≡ b → IsSplit key_of key (row ∷ more) (cond b 1 0)
  cases true tied =
      let same : key_of row ≡ key = texts_exact (key_of row) key ((Equal-is _).0 tied) in
      record {
        here = λ x member. subst (λ r. key_of r ≡ key) (Contains-one row x member) same;
        later = λ x member. subst (λ k. IsUnder k (key_of x)) same (first_row row more rise x member);
      }
  cases false apart =
      let under : IsUnder key (key_of row) = not_same_under key (key_of row) (above row (Contains-first row more)) apart in
      record {
        here = λ x member. absurd (not_in_none x member);
        later = λ x member.
            ⊎_elim
            (λ same. subst (λ r. IsUnder key (key_of r)) same under)
            (λ later. texts_total.trans key (key_of row) (key_of x) under (first_row row more rise x later))
            (Contains-cons_cases row more x member);
      }

pub rise_rest : (key : Key) (rows : List Row) → Rise rows → Rise (drop (rows_about key rows) rows)
rise_rest key [] rise = rise
rise_rest key (row ∷ more) rise = cases (is_eq (key_cmp (key_of row) key)) where
  cases : (b : Bool) → Rise (drop (cond b 1 0) (row ∷ more))
  cases true = rise_later row more rise
  cases false = rise

pub order_rest : (n : ℕ) (entries : List TableEntry) → AreInOrder (map listed entries) → AreInOrder (map listed (drop n entries))
order_rest zero entries order = order
order_rest (suc n) [] order = order
order_rest (suc n) (entry ∷ more) order = order_rest n more order.1

-- ---- what comes next
-- a name of an entry or a row
abbrev pub Remains : List TableEntry → List Row → Key → Type 0
Remains entries rows key = ((entry : TableEntry) × Contains entries entry × (entry_key entry ≡ key)) ⊎ ((row : Row) × Contains rows row × (key_of row ≡ key))

-- the key is the least of what is left
pub record IsNext (entries : List TableEntry) (rows : List Row) (key : Key) : Type 0 where
  pub of_entries : (entry : TableEntry) → Contains entries entry → IsUpTo key (entry_key entry)
  pub of_rows : (row : Row) → Contains rows row → IsUpTo key (key_of row)
  pub remains : Remains entries rows key

-- so nothing that is left is under it
pub not_under_next : (entries : List TableEntry) (rows : List Row) (key : Key) → IsNext entries rows key → (other : Key) → Remains entries rows other → ¬ IsUnder other key
not_under_next entries rows key next other (inl entry) under = under_itself other (under_then_up_to other key other under (subst (IsUpTo key) entry.2 (next.of_entries entry.0 entry.1)))
not_under_next entries rows key next other (inr row) under = under_itself other (under_then_up_to other key other under (subst (IsUpTo key) row.2 (next.of_rows row.0 row.1)))

row_up_to : (row : Row) (more : List Row) → Rise (row ∷ more) → (other : Row) → Contains (row ∷ more) other → IsUpTo (key_of row) (key_of other)
row_up_to row more rise other member =
    ⊎_elim
    (λ same. subst (λ r. IsUpTo (key_of row) (key_of r)) same (up_to_itself (key_of row)))
    (λ later. under_up_to (key_of row) (key_of other) (first_row row more rise other later))
    (Contains-cons_cases row more other member)

not_lt_up_to : (one other : Key) → is_lt (key_cmp one other) ≡ false → IsUpTo other one
not_lt_up_to one other not = cases (key_cmp one other) refl not where
  cases : (o : Ordering) → key_cmp one other ≡ o → is_lt o ≡ false → IsUpTo other one
  cases Less e h = absurd (cc)
  cases Equal e h = subst (λ k. IsUpTo k one) (texts_exact one other e) (up_to_itself one)
  cases Greater e h = let turned : key_cmp other one ≡ Less = texts_total.antisymm other one ∙ ap ordering_reverse e in ap is_gt turned

pub is_next : (entries : List TableEntry) (rows : List Row) (key : Key) → AreInOrder (map listed entries) → Rise rows → next_key entries rows ≡ Some key → IsNext entries rows key
is_next [] [] key order rise e = absurd (cc)
is_next (entry ∷ entries) [] key order rise e =
    let same : entry_key entry ≡ key = cc in
    subst (IsNext (entry ∷ entries) []) same (record {
      of_entries = first_entry entry entries order;
      of_rows = λ row member. absurd (not_in_none row member);
      remains = inl (entry, Contains-first entry entries, refl);
    })
is_next [] (row ∷ rows) key order rise e =
    let same : key_of row ≡ key = cc in
    subst (IsNext [] (row ∷ rows)) same (record {
      of_entries = λ entry member. absurd (not_in_none entry member);
      of_rows = row_up_to row rows rise;
      remains = inr (row, Contains-first row rows, refl);
    })
is_next (entry ∷ entries) (row ∷ rows) key order rise e = cases (is_lt (key_cmp (key_of row) (entry_key entry))) refl e where
  cases : (b : Bool) → is_lt (key_cmp (key_of row) (entry_key entry)) ≡ b → cond b (Some (key_of row)) (Some (entry_key entry)) ≡ Some key → IsNext (entry ∷ entries) (row ∷ rows) key
  cases true less is =
      let same : key_of row ≡ key = cc in
      subst (IsNext (entry ∷ entries) (row ∷ rows)) same (record {
        of_entries = λ other member. chain (key_of row) (entry_key entry) (entry_key other) (under_up_to (key_of row) (entry_key entry) (Less_from_is_lt _ less)) (first_entry entry entries order other member);
        of_rows = row_up_to row rows rise;
        remains = inr (row, Contains-first row rows, refl);
      })
  cases false not is =
      let same : entry_key entry ≡ key = cc in
      subst (IsNext (entry ∷ entries) (row ∷ rows)) same (record {
        of_entries = first_entry entry entries order;
        of_rows = λ other member. chain (entry_key entry) (key_of row) (key_of other) (not_lt_up_to (key_of row) (entry_key entry) not) (row_up_to row rows rise other member);
        remains = inl (entry, Contains-first entry entries, refl);
      })

pub none_left : (entries : List TableEntry) (rows : List Row) → next_key entries rows ≡ None → (key : Key) → ¬ Remains entries rows key
none_left [] [] e key remains = ⊎_elim (λ entry. not_in_none entry.0 entry.1) (λ row. not_in_none row.0 row.1) remains
none_left (entry ∷ entries) [] e key remains = absurd (cc)
none_left [] (row ∷ rows) e key remains = absurd (cc)
none_left (entry ∷ entries) (row ∷ rows) e key remains = cases (is_lt (key_cmp (key_of row) (entry_key entry))) e where
  cases : (b : Bool) → cond b (Some (key_of row)) (Some (entry_key entry)) ≡ None → ⊥
  cases true is = absurd (cc)
  cases false is = absurd (cc)

-- ---- one step
module _ (entries : List TableEntry) (rows : List Row) (key : Key) (order : AreInOrder (map listed entries)) (rise : Rise rows) (next : IsNext entries rows key) where
  pub entries_part : IsSplit entry_key key entries (count_at key entries)
  entries_part = entries_split key entries order next.of_entries

  pub rows_part : IsSplit key_of key rows (rows_about key rows)
  rows_part = rows_split key rows rise next.of_rows

  -- what is left afterwards was left, and is above
  pub was_left : (other : Key) → Remains (drop (count_at key entries) entries) (drop (rows_about key rows) rows) other → Remains entries rows other
  was_left other (inl entry) = inl (entry.0, from_rest entries (count_at key entries) entry.0 entry.1, entry.2)
  was_left other (inr row) = inr (row.0, from_rest rows (rows_about key rows) row.0 row.1, row.2)

  pub left_above : (other : Key) → Remains (drop (count_at key entries) entries) (drop (rows_about key rows) rows) other → IsUnder key other
  left_above other (inl entry) = subst (IsUnder key) entry.2 (entries_part.later entry.0 entry.1)
  left_above other (inr row) = subst (IsUnder key) row.2 (rows_part.later row.0 row.1)

  pub not_left : ¬ Remains (drop (count_at key entries) entries) (drop (rows_about key rows) rows) key
  not_left remains = under_itself key (left_above key remains)

  -- what was left is left, or has the key
  pub left_or_here : (other : Key) → Remains entries rows other → Remains (drop (count_at key entries) entries) (drop (rows_about key rows) rows) other ⊎ (other ≡ key)
  left_or_here other (inl entry) =
      ⊎_elim
      (λ front. inr (sym entry.2 ∙ entries_part.here entry.0 front))
      (λ rest. inl (inl (entry.0, rest, entry.2)))
      (in_either entries (count_at key entries) entry.0 entry.1)
  left_or_here other (inr row) =
      ⊎_elim
      (λ front. inr (sym row.2 ∙ rows_part.here row.0 front))
      (λ rest. inl (inr (row.0, rest, row.2)))
      (in_either rows (rows_about key rows) row.0 row.1)

  -- the walk gets shorter where something is taken
  fewer : 0 < length (take (count_at key entries) entries) + length (take (rows_about key rows) rows) → length (drop (count_at key entries) entries) + length (drop (rows_about key rows) rows) < length entries + length rows
  fewer some =
      let one = parts_length entries (count_at key entries) in
      let other = parts_length rows (rows_about key rows) in
      omega (arith, some, one, other)

  shorter_at : Remains entries rows key → length (drop (count_at key entries) entries) + length (drop (rows_about key rows) rows) < length entries + length rows
  shorter_at (inl entry) =
      ⊎_elim
      (λ front. let some = front.1 in fewer (omega (arith, some)))
      (λ rest. absurd (not_left (inl (entry.0, rest, entry.2))))
      (in_either entries (count_at key entries) entry.0 entry.1)
  shorter_at (inr row) =
      ⊎_elim
      (λ front. let some = front.1 in fewer (omega (arith, some)))
      (λ rest. absurd (not_left (inr (row.0, rest, row.2))))
      (in_either rows (rows_about key rows) row.0 row.1)

  pub shorter : length (drop (count_at key entries) entries) + length (drop (rows_about key rows) rows) < length entries + length rows
  shorter = shorter_at next.remains

-- ---- as many as there are
pub count_within : (key : Key) (entries : List TableEntry) → count_at key entries ≤ length entries
count_within key [] = omega arith
count_within key (entry ∷ more) = cases (is_eq (key_cmp (entry_key entry) key)) (count_within key more) where
  cases : (b : Bool) → count_at key more ≤ length more → cond b (1 + count_at key more) 0 ≤ length (entry ∷ more)
  cases true rest = omega (arith, rest)
  cases false rest = omega arith
