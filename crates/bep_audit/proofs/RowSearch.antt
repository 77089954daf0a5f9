-- Rows that rise are halved: which half a name's row is in.
use Rattle.std.proofs.Common.{◌≡◌, ◌↔◌, ◌+◌, ◌-◌, ◌<◌, ◌∙◌, ℕ, List, Option, Some, None, ◌∷◌, ◌++◌, Contains, length, get_or, take, drop, sym, ap, subst, ⊎_elim, zero, suc, Bool, false, arith, length-drop, map}
use Rattle.std.specs.Borrow.{Bor}
use Rattle.std.specs.Prelude.{◌/◌, ◌==◌, IfSome}
use Rattle.std.specs.declared.cmp.Ordering.TheVariants.{Less, Equal, Greater}
use Rattle.std.proofs.lemmas.Cmp.{tied_itself}
use Rattle.std.proofs.lemmas.List.{length-take, take_all}
use Rattle.std.proofs.lemmas.List.Elements.{Contains-append_left, Contains-append_right, Contains-append_cases}
use Rattle.std.proofs.lemmas.Map.Keys.{sorted_tail}
use Rattle.bep_facts.specs.Orders.{not_less_itself, texts_exact, texts_total}
use Rattle.bep_facts.specs.Members.{Contains-cons_cases, Contains-more}
use Rattle.bep_facts.specs.Places.{split_at}
use Rattle.bep_facts.specs.Rising.{below_later, back_is_sorted, front_is_sorted, front_is_below}
use Rattle.bep_audit.proofs.RowsFacts.{rows_sorted, rise_from_sorted}
use Rattle.bep_model.specs.declared.row.Row.{Row}
use Rattle.bep_model.specs.Tables.{Folder, FileName}
use Rattle.bep_model.specs.Settled.{HasRow, Rise, key_of, key_cmp}

-- what is left of the rows in which a name's row may be
pub record IsSearched (rows rest : List Row) (folder : Folder) (name : FileName) : Type 0 where
  pub rise : Rise rest
  pub within : (row : Row) → Contains rest row → Contains rows row
  pub has : HasRow rows folder name → HasRow rest folder name

searched_all : (rows : List Row) (folder : Folder) (name : FileName) → Rise rows → IsSearched rows rows folder name
searched_all rows folder name rise = record { rise = rise; within = λ row h. h; has = λ has. has }

-- the middle row is below the name
back_is_left : (rows front : List Row) (middle : Row) (back : List Row) (folder : Folder) (name : FileName) → key_cmp (key_of middle) (folder, name) ≡ Less → IsSearched rows (front ++ middle ∷ back) folder name → IsSearched rows back folder name
back_is_left rows front middle back folder name less s =
    let sorted = rows_sorted (front ++ middle ∷ back) s.rise in
    record {
      rise = rise_from_sorted back (sorted_tail key_cmp (key_of middle) (map key_of back) (back_is_sorted key_cmp key_of front (middle ∷ back) sorted));
      within = λ row h. s.within row (Contains-append_right front (middle ∷ back) row (Contains-more middle back row h));
      has = λ has.
          let found = s.has has in
          ⊎_elim
          (λ in_front. absurd (not_at (texts_total.trans (key_of found.0) (key_of middle) (folder, name) (front_is_below key_cmp key_of front middle back sorted found.0 in_front) less) found.2))
          (λ later.
          ⊎_elim
          (λ same. absurd (not_at less (ap key_of same ∙ found.2)))
          (λ in_back. (found.0, in_back, found.2))
          (Contains-cons_cases middle back found.0 later))
          (Contains-append_cases front (middle ∷ back) found.0 found.1);
    }
  where
    not_at : {key at : Folder × FileName} → key_cmp key at ≡ Less → ¬ (key ≡ at)
    not_at {key} {at} less same = not_less_itself texts_total at (subst (λ (k : Folder × FileName). key_cmp k at ≡ Less) same less)

-- the middle row is above the name
front_is_left : (rows front : List Row) (middle : Row) (back : List Row) (folder : Folder) (name : FileName) → key_cmp (key_of middle) (folder, name) ≡ Greater → IsSearched rows (front ++ middle ∷ back) folder name → IsSearched rows front folder name
front_is_left rows front middle back folder name greater s =
    let sorted = rows_sorted (front ++ middle ∷ back) s.rise in
    record {
      rise = rise_from_sorted front (front_is_sorted key_cmp key_of front (middle ∷ back) sorted);
      within = λ row h. s.within row (Contains-append_left front (middle ∷ back) row h);
      has = λ has.
          let found = s.has has in
          ⊎_elim
          (λ in_front. (found.0, in_front, found.2))
          (λ later.
          ⊎_elim
          (λ same. absurd (not_at (ap key_of same ∙ found.2)))
          (λ in_back. absurd (not_below (subst (λ (k : Folder × FileName). key_cmp (key_of middle) k ≡ Less) found.2 (below_later key_cmp key_of middle back (back_is_sorted key_cmp key_of front (middle ∷ back) sorted) found.0 in_back))))
          (Contains-cons_cases middle back found.0 later))
          (Contains-append_cases front (middle ∷ back) found.0 found.1);
    }
  where
    not_at : ¬ (key_of middle ≡ (folder, name))
    not_at same = let tied = tied_itself texts_total (folder, name) in let other = subst (λ (k : Folder × FileName). key_cmp k (folder, name) ≡ Greater) same greater in cc

    not_below : ¬ (key_cmp (key_of middle) (folder, name) ≡ Less)
    not_below less = cc

pub go_right : (rows : List Row) (place : ℕ) (middle : Row) (folder : Folder) (name : FileName) → Rise rows → place < length rows → middle ≡ get_or rows place middle → key_cmp (key_of middle) (folder, name) ≡ Less → IsSearched rows (take (length rows - (place + 1)) (drop (place + 1) rows)) folder name
go_right rows place middle folder name rise below is less =
    let rest = drop (place + 1) rows in
    let whole : take (length rows - (place + 1)) rest ≡ rest = take_all (length rows - (place + 1)) rest (omega (arith, length-drop (place + 1) rows)) in
    subst (λ (l : List Row). IsSearched rows l folder name) (sym whole)
    (back_is_left rows (take place rows) middle rest folder name less
    (subst (λ (l : List Row). IsSearched rows l folder name) (sym (split_at rows place middle below is)) (searched_all rows folder name rise)))

pub go_left : (rows : List Row) (place : ℕ) (middle : Row) (folder : Folder) (name : FileName) → Rise rows → place < length rows → middle ≡ get_or rows place middle → key_cmp (key_of middle) (folder, name) ≡ Greater → IsSearched rows (take place rows) folder name
go_left rows place middle folder name rise below is greater =
    front_is_left rows (take place rows) middle (drop (place + 1) rows) folder name greater
    (subst (λ (l : List Row). IsSearched rows l folder name) (sym (split_at rows place middle below is)) (searched_all rows folder name rise))

pub found_here : (rows : List Row) (place : ℕ) (row : Row) (folder : Folder) (name : FileName) → place < length rows → row ≡ get_or rows place row → key_cmp (key_of row) (folder, name) ≡ Equal → Contains rows row × (key_of row ≡ (folder, name))
found_here rows place row folder name below is tied = ((place, below, sym is), texts_exact (key_of row) (folder, name) tied)

-- what is left has the row exactly where all rows have it
pub has_exactly : (rows rest : List Row) (folder : Folder) (name : FileName) → IsSearched rows rest folder name → HasRow rest folder name ↔ HasRow rows folder name
has_exactly rows rest folder name s = (λ has. (has.0, s.within has.0 has.1, has.2), s.has)

-- and what is found in it is found in all rows
pub found_among : (rows rest : List Row) (folder : Folder) (name : FileName) → IsSearched rows rest folder name → (found : Option (Bor Row)) →
    IfSome found (λ row. Contains rest row.now × (key_of row.now ≡ (folder, name))) → IfSome found (λ row. Contains rows row.now × (key_of row.now ≡ (folder, name)))
found_among rows rest folder name s None h = h
found_among rows rest folder name s (Some row) h = (s.within row.now h.0, h.1)

-- the middle of some rows is one of them
pub middle_is_within : (n : ℕ) (b : Bool) → b ≡ (n == 0) → b ≡ false → n / 2 < n
middle_is_within zero b is not = absurd (cc)
middle_is_within (suc n) b is not = omega arith

pub right_is_shorter : (rows : List Row) (place : ℕ) → place < length rows → length (take (length rows - (place + 1)) (drop (place + 1) rows)) < length rows
right_is_shorter rows place below =
    let rest = length-drop (place + 1) rows in
    let kept = length-take (length rows - (place + 1)) (drop (place + 1) rows) in
    omega arith

pub left_is_shorter : (rows : List Row) (place : ℕ) → place < length rows → length (take place rows) < length rows
left_is_shorter rows place below = let kept = length-take place rows in omega arith

pub through : {A B D : Type 0} → A ↔ B → B ↔ D → A ↔ D
through one two = (λ a. two.0 (one.0 a), λ d. one.1 (two.1 d))
