-- What groups of entries hold after one more entry.
use Rattle.std.proofs.Common.{◌≡◌, ◌≢◌, ◌≤◌, ◌<◌, ◌+◌, ◌-◌, ℕ, Bool, true, false, cond, ◌&&◌, ltb, List, [], ◌∷◌, ◌++◌, Some, None, length, map, get_or, set, refl, sym, ap, subst, ◌∙◌, ⊎_elim, arith, get_or-set_same, get_or-set_other, length-append}
use Rattle.std.specs.Ordering.{is_eq}
use Rattle.std.specs.Cmp.{Equal-is}
use Rattle.std.proofs.lemmas.Bool.{cases_eq, cases_lt, cases_Bool, ltb-true}
use Rattle.std.proofs.lemmas.Cmp.{tied_itself}
use Rattle.std.proofs.lemmas.List.{append-nil, append_assoc, length-set, length-map, get_or_append_left, get_or-append_right}
use Rattle.std.proofs.lemmas.List.Elements.{filter-append}
use Rattle.std.proofs.lemmas.Option.{none-some}
use Rattle.bep_facts.specs.Orders.{texts_total, texts_exact}
use Rattle.bep_model.specs.Tables.{Folder, FileName}
use Rattle.bep_model.specs.Settled.{key_cmp}
use Rattle.bep_tables.specs.declared.table.entry.TableEntry.{TableEntry}
use Rattle.bep_tables.specs.Listed.{Listed, listed, is_of, group_of}
use Rattle.bep_tables.specs.inner.Groups.{AreFull, Counted, Filled, Spot, Took, begins_with, grouping, in_order_of, key_in, place_of, spot_at}

-- ---- folders and names

pub same_key : (key other : Folder × FileName) → is_eq (key_cmp key other) ≡ true → key ≡ other
same_key key other tied = texts_exact key other ((Equal-is _).0 tied)

pub tied_key : (key other : Folder × FileName) → key ≡ other → is_eq (key_cmp key other) ≡ true
tied_key key other same = subst (λ k. is_eq (key_cmp key k) ≡ true) same (ap is_eq (tied_itself texts_total key))

-- an entry of this folder and name
abbrev pub with_key : TableEntry → Folder × FileName → TableEntry
with_key one key = record one { folder = record one.folder { now = key.0 }; name = record one.name { now = key.1 } }

-- ---- groups

pub some_same : {p q : ℕ} → Some p ≡ Some q → p ≡ q
some_same e = cc

-- the entries of a folder and name, with one more
group_more : (key : Folder × FileName) (seen : List Listed) (one : Listed) → group_of key (seen ++ one ∷ []) ≡ group_of key seen ++ cond (is_of key one) (one ∷ []) []
group_more key seen one = filter-append (is_of key) seen (one ∷ [])

group_with : (key : Folder × FileName) (seen : List Listed) (one : Listed) → is_of key one ≡ true → group_of key (seen ++ one ∷ []) ≡ group_of key seen ++ one ∷ []
group_with key seen one passes = group_more key seen one ∙ ap (λ b. group_of key seen ++ cond b (one ∷ []) []) passes

longer_with : (key : Folder × FileName) (seen : List Listed) (one : Listed) → is_of key one ≡ true → length (group_of key (seen ++ one ∷ [])) ≡ length (group_of key seen) + 1
longer_with key seen one passes = ap (λ (l : List Listed). length l) (group_with key seen one passes) ∙ length-append (group_of key seen) (one ∷ [])

group_without : (key : Folder × FileName) (seen : List Listed) (one : Listed) → is_of key one ≡ false → group_of key (seen ++ one ∷ []) ≡ group_of key seen
group_without key seen one fails = group_more key seen one ∙ ap (λ b. group_of key seen ++ cond b (one ∷ []) []) fails ∙ append-nil (group_of key seen)

-- those of its own folder and name, before it and behind it
group_split : (key : Folder × FileName) (seen rest : List Listed) (one : Listed) → is_of key one ≡ true → group_of key (seen ++ one ∷ rest) ≡ group_of key seen ++ one ∷ group_of key rest
group_split key seen rest one passes =
    filter-append (is_of key) seen (one ∷ rest)
    ∙ ap (λ b. group_of key seen ++ cond b (one ∷ group_of key rest) (group_of key rest)) passes

-- what stands right behind a list
behind : (xs ys : List Listed) (one none : Listed) → get_or (xs ++ one ∷ ys) (length xs) none ≡ one
behind xs ys one none =
    let first : length xs - length xs ≡ 0 = omega arith in
    get_or-append_right xs (one ∷ ys) (length xs) (length xs) none refl (omega arith)
    ∙ ap (λ n. get_or (one ∷ ys) n none) first

abbrev pub no_spot : Spot
no_spot = (([], []), 0)

-- a group that stays of its folder and name may have another number
module _ (groups : List Spot) (places : List (TableEntry × ℕ)) (place : ℕ) (spot : Spot) (full : AreFull groups places) (below : place < length groups) (same : spot.0 ≡ (spot_at groups place).0) where
  key_stays : (other : ℕ) → (spot_at (set groups place spot) other).0 ≡ (spot_at groups other).0
  key_stays other =
      ⊎_elim
      (λ at.
      ap (λ p. (spot_at (set groups place spot) p).0) at
      ∙ ap (λ (s : Spot). s.0) (get_or-set_same groups place spot no_spot below)
      ∙ same
      ∙ ap (λ p. (spot_at groups p).0) (sym at))
      (λ apart. ap (λ (s : Spot). s.0) (get_or-set_other groups place other spot no_spot apart))
      (cases_eq other place)

  pub full_kept : AreFull (set groups place spot) places
  full_kept = record {
    filled = λ key other is. let was = full.filled key other is in
        (subst (λ n. other < n) (sym (length-set groups place spot)) was.0, key_stays other ∙ was.1);
    first = λ other within. ap (place_of places) (key_stays other) ∙ full.first other (subst (λ n. other < n) (length-set groups place spot) within);
  }

-- no groups, and no entries
pub none_full : AreFull [] []
none_full = record {
  filled = λ key place is. absurd (none-some place is);
  first = λ place below. absurd (nothing place below);
}
  where
    nothing : (place : ℕ) → place < 0 → ⊥
    nothing place below = omega (arith, below)

pub none_counted : Counted [] (grouping [] [] [])
none_counted = record {
  counts = λ key place is. absurd (none-some place is);
  absent = λ key none. refl;
}

-- a group that is of a folder and name is the one that is found
pub begins_there : (groups : List Spot) (places : List (TableEntry × ℕ)) → AreFull groups places → (key : Folder × FileName) (place : ℕ) → begins_with key place groups ≡ true → place_of places key ≡ Some place
begins_there groups places full key place begins =
    let same = same_key (spot_at groups place).0 key (right_true (ltb place (length groups)) (is_eq (key_cmp (spot_at groups place).0 key)) begins) in
    let below = ltb-true place (length groups) (left_true (ltb place (length groups)) (is_eq (key_cmp (spot_at groups place).0 key)) begins) in
    ap (place_of places) (sym same) ∙ full.first place below
  where
    left_true : (a b : Bool) → (a && b) ≡ true → a ≡ true
    left_true true b both = refl
    left_true false b both = absurd (cc)

    right_true : (a b : Bool) → (a && b) ≡ true → b ≡ true
    right_true true b both = both
    right_true false b both = absurd (cc)

module _ (groups : List Spot) (places : List (TableEntry × ℕ)) (entries : List TableEntry) (entry : TableEntry) (full : AreFull groups places) where
  -- ---- the entry's group is there

  module _ (place : ℕ) (there : place_of places (key_in entry) ≡ Some place) where
    abbrev spot : Spot
    spot = spot_at groups place

    abbrev after : List Spot
    after = set groups place (spot.0, spot.1 + 1)

    here : (place < length groups) × (spot.0 ≡ key_in entry)
    here = full.filled (key_in entry) place there

    at_place : spot_at after place ≡ (spot.0, spot.1 + 1)
    at_place = get_or-set_same groups place (spot.0, spot.1 + 1) no_spot here.0

    elsewhere : (other : ℕ) → other ≢ place → spot_at after other ≡ spot_at groups other
    elsewhere other apart = get_or-set_other groups place other (spot.0, spot.1 + 1) no_spot apart

    pub full_there : AreFull after places
    full_there = full_kept groups places place (spot.0, spot.1 + 1) full here.0 refl

    -- entries that are found at the place are of the entry's folder and name, and no others are
    here_same : (key : Folder × FileName) (other : ℕ) → place_of places key ≡ Some other → other ≡ place → is_of key (listed entry) ≡ true
    here_same key other is at = tied_key (key_in entry) key (sym here.1 ∙ ap (λ p. (spot_at groups p).0) (sym at) ∙ (full.filled key other is).1)

    found_same : (key : Folder × FileName) → is_of key (listed entry) ≡ true → place_of places key ≡ Some place
    found_same key passes = ap (place_of places) (sym (same_key (key_in entry) key passes)) ∙ there

    not_here : (key : Folder × FileName) (other : ℕ) → place_of places key ≡ Some other → other ≢ place → is_of key (listed entry) ≡ false
    not_here key other is apart =
        ⊎_elim
        (λ passes. absurd (apart (some_same (sym is ∙ found_same key passes))))
        (λ fails. fails)
        (cases_Bool (is_of key (listed entry)))

    grows : (seen : List Listed) (key : Folder × FileName) (other base : ℕ) → place_of places key ≡ Some other → (spot_at groups other).1 ≡ base + length (group_of key seen) →
        (spot_at after other).1 ≡ base + length (group_of key (seen ++ listed entry ∷ []))
    grows seen key other base is was =
        ⊎_elim
        (λ at.
        let more = longer_with key seen (listed entry) (here_same key other is at) in
        let now : (spot_at after other).1 ≡ (spot_at groups other).1 + 1 =
        ap (λ p. (spot_at after p).1) at ∙ ap (λ (s : Spot). s.1) at_place ∙ ap (λ p. (spot_at groups p).1 + 1) (sym at) in
        omega (arith, now, was, more))
        (λ apart.
        ap (λ (s : Spot). s.1) (elsewhere other apart)
        ∙ was
        ∙ ap (λ (l : List Listed). base + length l) (sym (group_without key seen (listed entry) (not_here key other is apart))))
        (cases_eq other place)

    more_counted : (seen : List Listed) (key : Folder × FileName) (other : ℕ) → place_of places key ≡ Some other → (spot_at groups other).1 ≡ length (group_of key seen) →
        (spot_at after other).1 ≡ length (group_of key (seen ++ listed entry ∷ []))
    more_counted seen key other is was =
        let grown = grows seen key other 0 is (omega (arith, was)) in
        omega (arith, grown)

    none_there : (seen : List Listed) (key : Folder × FileName) → place_of places key ≡ None → group_of key seen ≡ [] → group_of key (seen ++ listed entry ∷ []) ≡ []
    none_there seen key none was =
        ⊎_elim
        (λ passes. absurd (none-some place (sym none ∙ found_same key passes)))
        (λ fails. group_without key seen (listed entry) fails ∙ was)
        (cases_Bool (is_of key (listed entry)))

    module _ (new : List TableEntry) (put : map listed new ≡ set (map listed entries) spot.1 (listed entry)) where
      abbrev stood : List Listed
      stood = map listed entries

      as_long : length new ≡ length entries
      as_long =
          sym (length-map new listed)
          ∙ ap (λ (l : List Listed). length l) put
          ∙ length-set stood spot.1 (listed entry)
          ∙ length-map entries listed

      module _ (every seen rest : List Listed) (split : every ≡ (seen ++ listed entry ∷ []) ++ rest) (was : Filled every seen (grouping groups places entries)) where
        abbrev target : List Listed
        target = in_order_of every places

        abbrev done : List Listed
        done = group_of (key_in entry) seen

        next_here : spot.1 ≡ was.base place + length done
        next_here = was.next (key_in entry) place there

        its_group : group_of (key_in entry) every ≡ done ++ listed entry ∷ group_of (key_in entry) rest
        its_group =
            ap (group_of (key_in entry)) (split ∙ append_assoc seen (listed entry ∷ []) rest)
            ∙ group_split (key_in entry) seen rest (listed entry) (tied_key (key_in entry) (key_in entry) refl)

        in_group : length done < length (group_of (key_in entry) every)
        in_group =
            let long : length (group_of (key_in entry) every) ≡ length done + length (listed entry ∷ group_of (key_in entry) rest) =
            ap (λ (l : List Listed). length l) its_group ∙ length-append done (listed entry ∷ group_of (key_in entry) rest) in
            omega (arith, long)

        in_room : spot.1 < length stood
        in_room =
            let same : length stood ≡ length target = length-map entries listed ∙ was.long in
            let within : was.base place + length (group_of (key_in entry) every) ≤ length target = was.within (key_in entry) place there in
            omega (arith, same, within, in_group, next_here)

        belongs : (none : Listed) → get_or target spot.1 none ≡ listed entry
        belongs none =
            ap (λ p. get_or target p none) next_here
            ∙ was.rooms (key_in entry) place (length done) none there in_group
            ∙ ap (λ (l : List Listed). get_or l (length done) none) its_group
            ∙ behind done (group_of (key_in entry) rest) (listed entry) none

        still : (key : Folder × FileName) (other i : ℕ) → place_of places key ≡ Some other → i < length (group_of key (seen ++ listed entry ∷ [])) → was.base other + i ≢ spot.1 → i < length (group_of key seen)
        still key other i is below miss =
            ⊎_elim
            (λ at.
            let passes = here_same key other is at in
            let more = longer_with key seen (listed entry) passes in
            let last : spot.1 ≡ was.base other + length (group_of key seen) = ap (λ p. (spot_at groups p).1) (sym at) ∙ was.next key other is in
            omega (arith, more, last, miss, below))
            (λ apart. subst (λ (l : List Listed). i < length l) (group_without key seen (listed entry) (not_here key other is apart)) below)
            (cases_eq other place)

        right_there : (key : Folder × FileName) (other i : ℕ) (none : Listed) → place_of places key ≡ Some other → i < length (group_of key (seen ++ listed entry ∷ [])) → get_or (map listed new) (was.base other + i) none ≡ get_or target (was.base other + i) none
        right_there key other i none is below =
            ap (λ (l : List Listed). get_or l (was.base other + i) none) put
            ∙ ⊎_elim
            (λ hit.
            ap (λ p. get_or (set stood spot.1 (listed entry)) p none) hit
            ∙ get_or-set_same stood spot.1 (listed entry) none in_room
            ∙ sym (belongs none)
            ∙ ap (λ p. get_or target p none) (sym hit))
            (λ miss.
            get_or-set_other stood spot.1 (was.base other + i) (listed entry) none miss
            ∙ was.right key other i none is (still key other i is below miss))
            (cases_eq (was.base other + i) spot.1)

        filled_there : Filled every (seen ++ listed entry ∷ []) (grouping after places new)
        filled_there = record {
          base = was.base;
          sorted = was.sorted;
          places = was.places;
          absent = was.absent;
          long = as_long ∙ was.long;
          next = λ key other is. grows seen key other (was.base other) is (was.next key other is);
          within = was.within;
          rooms = was.rooms;
          right = right_there;
          covers = was.covers;
        }

      pub took_there : Took (listed entry ∷ []) (grouping groups places entries) (grouping after places new)
      took_there = record {
        counted = λ seen was. record {
          counts = λ key other is. more_counted seen key other is (was.counts key other is);
          absent = λ key none. none_there seen key none (was.absent key none);
        };
        filled = filled_there;
      }

  -- ---- the entry begins a group

  module _ (new : List (TableEntry × ℕ)) (missing : place_of places (key_in entry) ≡ None)
      (put : (key : Folder × FileName) → place_of new key ≡ cond (is_eq (key_cmp (key_in entry) key)) (Some (length groups)) (place_of places key)) where
    abbrev longer : List Spot
    longer = groups ++ (key_in entry, 1) ∷ []

    long : length longer ≡ length groups + 1
    long = length-append groups ((key_in entry, 1) ∷ [])

    at_end : spot_at longer (length groups) ≡ (key_in entry, 1)
    at_end =
        let first : length groups - length groups ≡ 0 = omega arith in
        get_or-append_right groups ((key_in entry, 1) ∷ []) (length groups) (length groups) no_spot refl (omega arith)
        ∙ ap (λ n. get_or ((key_in entry, 1) ∷ []) n no_spot) first

    before_end : (place : ℕ) → place < length groups → spot_at longer place ≡ spot_at groups place
    before_end place below = get_or_append_left groups ((key_in entry, 1) ∷ []) no_spot place below

    put_here : (key : Folder × FileName) → key_in entry ≡ key → place_of new key ≡ Some (length groups)
    put_here key same = put key ∙ ap (λ b. cond b (Some (length groups)) (place_of places key)) (tied_key (key_in entry) key same)

    put_apart : (key : Folder × FileName) → is_of key (listed entry) ≡ false → place_of new key ≡ place_of places key
    put_apart key fails = put key ∙ ap (λ b. cond b (Some (length groups)) (place_of places key)) fails

    missing_same : (key : Folder × FileName) → is_of key (listed entry) ≡ true → place_of places key ≡ None
    missing_same key passes = ap (place_of places) (sym (same_key (key_in entry) key passes)) ∙ missing

    at_last : (key : Folder × FileName) (place : ℕ) → is_of key (listed entry) ≡ true → place_of new key ≡ Some place → place ≡ length groups
    at_last key place passes is = some_same (sym is ∙ put_here key (same_key (key_in entry) key passes))

    filled_new : (key : Folder × FileName) (place : ℕ) → place_of new key ≡ Some place → (place < length longer) × ((spot_at longer place).0 ≡ key)
    filled_new key place is =
        ⊎_elim
        (λ passes.
        let at = at_last key place passes is in
        (omega (arith, at, long), ap (λ p. (spot_at longer p).0) at ∙ ap (λ (s : Spot). s.0) at_end ∙ same_key (key_in entry) key passes))
        (λ fails.
        let was = full.filled key place (sym (put_apart key fails) ∙ is) in
        (omega (arith, was.0, long), ap (λ (s : Spot). s.0) (before_end place was.0) ∙ was.1))
        (cases_Bool (is_of key (listed entry)))

    first_new : (place : ℕ) → place < length longer → place_of new (spot_at longer place).0 ≡ Some place
    first_new place within =
        ⊎_elim
        (λ below.
        let key = (spot_at longer place).0 in
        let is : place_of places key ≡ Some place = ap (λ (s : Spot). place_of places s.0) (before_end place below) ∙ full.first place below in
        ⊎_elim
        (λ passes. absurd (none-some place (sym (missing_same key passes) ∙ is)))
        (λ fails. put_apart key fails ∙ is)
        (cases_Bool (is_of key (listed entry))))
        (λ above.
        let at : place ≡ length groups = omega (arith, above, within, long) in
        let same : (spot_at longer place).0 ≡ key_in entry = ap (λ p. (spot_at longer p).0) at ∙ ap (λ (s : Spot). s.0) at_end in
        put_here (spot_at longer place).0 (sym same) ∙ ap (λ p. Some p) (sym at))
        (cases_lt place (length groups))

    pub full_new : AreFull longer new
    full_new = record { filled = filled_new; first = first_new }

    counted_new : (seen : List Listed) → Counted seen (grouping groups places entries) → Counted (seen ++ listed entry ∷ []) (grouping longer new entries)
    counted_new seen was = record {
      counts = λ key place is.
          ⊎_elim
          (λ passes.
          let none : length (group_of key seen) ≡ 0 = ap (λ (l : List Listed). length l) (was.absent key (missing_same key passes)) in
          let one_more = longer_with key seen (listed entry) passes in
          let number : (spot_at longer place).1 ≡ 1 = ap (λ p. (spot_at longer p).1) (at_last key place passes is) ∙ ap (λ (s : Spot). s.1) at_end in
          omega (arith, none, one_more, number))
          (λ fails.
          let old = sym (put_apart key fails) ∙ is in
          ap (λ (s : Spot). s.1) (before_end place (full.filled key place old).0)
          ∙ was.counts key place old
          ∙ ap (λ (l : List Listed). length l) (sym (group_without key seen (listed entry) fails)))
          (cases_Bool (is_of key (listed entry)));
      absent = λ key none.
          ⊎_elim
          (λ passes. absurd (none-some (length groups) (sym none ∙ put_here key (same_key (key_in entry) key passes))))
          (λ fails. group_without key seen (listed entry) fails ∙ was.absent key (sym (put_apart key fails) ∙ none))
          (cases_Bool (is_of key (listed entry)));
    }

    -- among all entries it would be one of a folder and name that has none
    never_filled : (every seen rest : List Listed) → every ≡ (seen ++ listed entry ∷ []) ++ rest → Filled every seen (grouping groups places entries) → ⊥
    never_filled every seen rest split was =
        let some = group_split (key_in entry) seen rest (listed entry) (tied_key (key_in entry) (key_in entry) refl) in
        let none : length (group_of (key_in entry) seen ++ listed entry ∷ group_of (key_in entry) rest) ≡ 0 =
        ap (λ (l : List Listed). length l) (sym some ∙ ap (group_of (key_in entry)) (sym (split ∙ append_assoc seen (listed entry ∷ []) rest)) ∙ was.absent (key_in entry) missing) in
        let long = length-append (group_of (key_in entry) seen) (listed entry ∷ group_of (key_in entry) rest) in
        omega (arith, none, long)

    pub took_new : Took (listed entry ∷ []) (grouping groups places entries) (grouping longer new entries)
    took_new = record {
      counted = counted_new;
      filled = λ every seen rest split was. absurd (never_filled every seen rest split was);
    }
