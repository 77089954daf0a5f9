-- Rows that are lent, sorted by their names.
use Rattle.std.proofs.Common.{◌≡◌, ◌↔◌, ◌≤◌, ◌<◌, ◌+◌, ◌-◌, ℕ, zero, suc, Bool, true, false, List, [], ◌∷◌, ◌++◌, Contains, IsTrue, map, length, get_or, take, drop, refl, sym, ap, subst, ◌∙◌, ⊎_elim, arith}
use Rattle.std.proofs.lemmas.List.{length-drop, map-append, take_all}
use Rattle.std.specs.Prelude.{◌==◌, not}
use Rattle.std.proofs.lemmas.Bool.{eqb-true}
use Rattle.std.proofs.lemmas.List.Elements.{Contains-append_left, Contains-append_right, Contains-append_cases}
use Rattle.std.specs.List.Sorted.{IsPermutation}
use Rattle.std.proofs.lemmas.List.Sorted.{Contains-permutation, IsPermutation-sym, IsPermutation-map}
use Rattle.bep_facts.specs.Members.{Contains-first, Contains-one, Contains-cons_cases, Contains-image, Contains-from_image, not_in_none}
use Rattle.bep_facts.specs.Places.{done_with}
use Rattle.bep_model.specs.declared.row.Row.{Row}
use Rattle.bep_model.specs.Tables.{Folder, FileName}
use Rattle.bep_model.specs.Settled.{HasRow, key_of}
use Rattle.bep_gather.specs.Adding.{Each}
use Rattle.bep_explain.specs.inner.Rows.{row_shown, named_key, AreAlike}
use Rattle.bep_explain.specs.declared.rows.NamedRow.{NamedRow}

-- a list that is permuted has the same images
pub same_rows : (rows : List Row) (before after : List NamedRow) → map row_shown before ≡ rows → IsPermutation before after → (row : Row) → Contains (map row_shown after) row ↔ Contains rows row
same_rows rows before after lent moved row =
    let images = IsPermutation-map row_shown before after moved in (
      λ there. subst (λ (all : List Row). Contains all row) lent (Contains-permutation (map row_shown after) (map row_shown before) row (IsPermutation-sym (map row_shown before) (map row_shown after) images) there),
      λ there. Contains-permutation (map row_shown before) (map row_shown after) row images (subst (λ (all : List Row). Contains all row) (sym lent) there),
    )

-- one of a list that isn't empty
has_one : {X : Type 0} (none : Bool) (xs : List X) → none ≡ (length xs == 0) → IsTrue (not none) ↔ ((x : X) × Contains xs x)
has_one true [] is = (λ e. absurd (cc), λ some. absurd (not_in_none some.0 some.1))
has_one false [] is = absurd (cc)
has_one true (x ∷ more) is = let none = eqb-true (length (x ∷ more)) 0 (sym is) in absurd (omega (arith, none))
has_one false (x ∷ more) is = (λ _. (x, Contains-first x more), λ _. refl)

-- a name has a row exactly where something is found about it
pub found_has_row : (none : Bool) (rows found : List NamedRow) (folder : Folder) (name : FileName) → none ≡ (length found == 0) → ((one : NamedRow) → Contains found one ↔ (Contains rows one × (named_key one ≡ (folder, name)))) → IsTrue (not none) ↔ HasRow (map row_shown rows) folder name
found_has_row none rows found folder name is exactly = (
  λ some.
      let one = (has_one none found is).0 some in
      let both = (exactly one.0).0 one.1 in
      (row_shown one.0, Contains-image row_shown rows one.0 both.0, both.1),
  λ has.
      let image = Contains-from_image row_shown rows has.0 has.1 in
      (has_one none found is).1 (image.0, (exactly image.0).1 (image.1, ap (λ (r : Row). (r.folder, r.entry.name)) image.2 ∙ has.2)),
)

-- ---- what all of a list say
module _ {X Y : Type 0} (Says : Y → X → Type 0) where
  pub each_same : (ys zs : List Y) → ((y : Y) → Contains ys y ↔ Contains zs y) → (one : X) → Each Says ys one ↔ Each Says zs one
  each_same ys zs same one = (λ each y there. each y ((same y).1 there), λ each y there. each y ((same y).0 there))

  pub each_append : (ys zs : List Y) (one : X) → (Each Says ys one × Each Says zs one) ↔ Each Says (ys ++ zs) one
  each_append ys zs one = (
    λ both y there. ⊎_elim (λ first. both.0 y first) (λ second. both.1 y second) (Contains-append_cases ys zs y there),
    λ each. (λ y there. each y (Contains-append_left ys zs y there), λ y there. each y (Contains-append_right ys zs y there)),
  )

-- ---- the front of what is left
take_none : {X : Type 0} (n : ℕ) → ◌≡◌ {A = List X} (take n []) []
take_none zero = refl
take_none (suc n) = refl

take_plus : {X : Type 0} (place n : ℕ) (xs : List X) → take (place + n) xs ≡ take place xs ++ take n (drop place xs)
take_plus zero n xs = let same : 0 + n ≡ n = omega arith in ap (λ k. take k xs) same
take_plus (suc place) n [] = take_none (suc place + n) ∙ sym (take_none n)
take_plus (suc place) n (x ∷ xs) = let same : suc place + n ≡ suc (place + n) = omega arith in ap (λ k. take k (x ∷ xs)) same ∙ ap (λ rest. x ∷ rest) (take_plus place n xs)

whole_rest : {X : Type 0} (xs : List X) (place : ℕ) → take (length xs - place) (drop place xs) ≡ drop place xs
whole_rest xs place = take_all (length xs - place) (drop place xs) (omega (arith, length-drop place xs))

-- the rows so far, and those at the front of what is left
pub with_front : (rows front : List NamedRow) (place : ℕ) → front ≡ take (length front) (take (length rows - place) (drop place rows)) → map row_shown (take (place + length front) rows) ≡ map row_shown (take place rows) ++ map row_shown front
with_front rows front place is =
    let here : take (length front) (drop place rows) ≡ front = ap (take (length front)) (sym (whole_rest rows place)) ∙ sym is in
    ap (map row_shown) (take_plus place (length front) rows ∙ ap (λ l. take place rows ++ l) here)
    ∙ map-append row_shown (take place rows) front

pub some_left : (rows : List NamedRow) (place : ℕ) → place < length rows → 0 < length (take (length rows - place) (drop place rows))
some_left rows place below = let whole = ap length (whole_rest rows place) in let rest = length-drop place rows in omega arith

pub within_left : (rows : List NamedRow) (place n : ℕ) → place < length rows → n ≤ length (take (length rows - place) (drop place rows)) → place + n ≤ length rows
within_left rows place n below few = let whole = ap length (whole_rest rows place) in let rest = length-drop place rows in omega arith

-- ---- a walk over a list, of each of which something holds
module _ {X : Type 0} (P : X → Type 0) (xs : List X) where
  abbrev pub SoFar : ℕ → Type 0
  SoFar place = (x : X) → Contains (take place xs) x → P x

  pub so_far_goes_on : (place : ℕ) (x : X) → place < length xs → x ≡ get_or xs place x → SoFar place → P x → SoFar (place + 1)
  so_far_goes_on place x below is before here y member =
      ⊎_elim
      (λ earlier. before y earlier)
      (λ last. subst P (Contains-one x y last) here)
      (Contains-append_cases (take place xs) (x ∷ []) y (subst (λ l. Contains l y) (done_with xs place x below is) member))

  pub so_far_ends : (place : ℕ) → length xs ≤ place → SoFar place → (x : X) → Contains xs x → P x
  so_far_ends place past before x member = before x (subst (λ l. Contains l x) (sym (take_all place xs past)) member)

-- what holds of each that is lent holds of each row
pub of_each_row : (P : Row → Type 0) (rows : List NamedRow) → ((one : NamedRow) → Contains rows one → P (row_shown one)) → (row : Row) → Contains (map row_shown rows) row → P row
of_each_row P rows each row member = let image = Contains-from_image row_shown rows row member in subst P image.2 (each image.0 image.1)

-- the rows at the front that are about one name
at_front : (first : NamedRow) (more : List NamedRow) (count : ℕ) → ((one : NamedRow) → Contains (take count more) one → named_key one ≡ named_key first) → AreAlike (map row_shown (first ∷ take count more))
at_front first more count alike one here other there = at_first other there ∙ sym (at_first one here) where
  at_first : (row : Row) → Contains (map row_shown (first ∷ take count more)) row → key_of row ≡ named_key first
  at_first = of_each_row (λ (row : Row). key_of row ≡ named_key first) (first ∷ take count more) (λ lent member.
      ⊎_elim (λ same. ap named_key (sym same)) (λ later. alike lent later) (Contains-cons_cases first (take count more) lent member))

pub front_alike : (rows : List NamedRow) (first : NamedRow) (count : ℕ) → 1 ≤ length rows → first ≡ get_or rows 0 first → ((one : NamedRow) → Contains (take count (take (length rows - 1) (drop 1 rows))) one → named_key one ≡ named_key first) → AreAlike (map row_shown (take (1 + count) rows))
front_alike [] first count some is alike = absurd (omega (arith, some))
front_alike (x ∷ more) first count some is alike =
    let one_more : suc count ≡ 1 + count = omega arith in
    subst (λ n. AreAlike (map row_shown (take n (x ∷ more)))) one_more (at_front x more count (λ one there. alike one (subst (λ l. Contains (take count l) one) (sym (whole_rest (x ∷ more) 1)) there) ∙ ap named_key is))

-- one of them, at a place of a walk
pub item_is_there : {X : Type 0} (xs : List X) (place : ℕ) (x : X) → place < length xs → x ≡ get_or xs place x → Contains xs x
item_is_there xs place x below is = (place, below, sym is)
