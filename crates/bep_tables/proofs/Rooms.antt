-- Where each group has its room, and that all entries stand in order when each is put.
use Rattle.std.proofs.Common.{◌≡◌, ◌≢◌, ◌≤◌, ◌<◌, ◌+◌, ◌-◌, ℕ, List, [], ◌∷◌, ◌++◌, Some, None, Contains, length, map, get_or, set, refl, sym, ap, subst, ◌∙◌, ◌⊎◌, inl, inr, ⊎_elim, arith, get_or-set_same, get_or-set_other, length-append}
use Rattle.std.specs.declared.cmp.Ordering.TheVariants.{Less}
use Rattle.std.specs.BTreeMap.{is_at}
use Rattle.std.specs.Map.{keys_of}
use Rattle.std.specs.List.Sorted.{IsStrictlySortedBy}
use Rattle.std.proofs.lemmas.Bool.{cases_lt}
use Rattle.std.proofs.lemmas.Grind.{flat_map-append}
use Rattle.std.proofs.lemmas.List.{append-nil, append_assoc, length-map, get_or_append_left, get_or-append-add, ext_get_or}
use Rattle.std.proofs.lemmas.List.Elements.{Contains-append_cases, Contains-append_left, Contains-append_right}
use Rattle.std.proofs.lemmas.Map.Keys.{sorted_tail}
use Rattle.bep_facts.specs.Members.{not_in_none, Contains-first, Contains-more, Contains-one}
use Rattle.bep_facts.specs.Orders.{texts_total, not_less_itself}
use Rattle.bep_model.specs.Tables.{Folder, FileName}
use Rattle.bep_model.specs.Settled.{key_cmp}
use Rattle.bep_tables.specs.declared.table.entry.TableEntry.{TableEntry}
use Rattle.bep_tables.specs.Listed.{Listed, listed, group_of, IsGrouped}
use Rattle.bep_tables.specs.inner.TableOrder.{entry_cmp}
use Rattle.bep_tables.specs.inner.Groups.{AreFull, Counted, Filled, Grouping, Spot, grouping, in_order_of, key_in, place_of, spot_at}
use Rattle.bep_tables.proofs.GroupFacts.{full_kept, no_spot, same_key, some_same}
use Rattle.bep_tables.proofs.Regrouped.{below_rest, pair_found, regrouped}

-- these pairs are found in the map
abbrev pub AreFound : List (TableEntry × ℕ) → List (TableEntry × ℕ) → Type 0
AreFound places pairs = (pair : TableEntry × ℕ) → Contains pairs pair → place_of places (key_in pair.0) ≡ Some pair.1

-- the groups of the first pairs have their rooms, of so many entries together, and the others' numbers still say how many
-- entries they have
pub record Begun (every : List Listed) (places done rest : List (TableEntry × ℕ)) (groups : List Spot) (long : ℕ) : Type 0 where
  pub parts : places ≡ done ++ rest
  pub sorted : IsStrictlySortedBy entry_cmp (keys_of rest)
  pub below : (one other : TableEntry × ℕ) → Contains done one → Contains rest other → key_cmp (key_in one.0) (key_in other.0) ≡ Less
  pub found : AreFound places done
  pub left : AreFound places rest
  pub total : long ≡ length (in_order_of every done)
  pub counts : (pair : TableEntry × ℕ) → Contains rest pair → (spot_at groups pair.1).1 ≡ length (group_of (key_in pair.0) every)
  pub within : (pair : TableEntry × ℕ) → Contains done pair → (spot_at groups pair.1).1 + length (group_of (key_in pair.0) every) ≤ length (in_order_of every done)
  pub rooms : (pair : TableEntry × ℕ) (i : ℕ) (none : Listed) → Contains done pair → i < length (group_of (key_in pair.0) every) →
      get_or (in_order_of every done) ((spot_at groups pair.1).1 + i) none ≡ get_or (group_of (key_in pair.0) every) i none
  pub covers : (i : ℕ) → i < length (in_order_of every done) → (pair : TableEntry × ℕ) × Contains done pair × (j : ℕ) × (j < length (group_of (key_in pair.0) every)) × (i ≡ (spot_at groups pair.1).1 + j)

pub none_begun : (every : List Listed) (places : List (TableEntry × ℕ)) (groups : List Spot) → Counted every (grouping groups places []) → IsStrictlySortedBy entry_cmp (keys_of places) → AreFound places places →
    Begun every places [] places groups 0
none_begun every places groups counted sorted found = record {
  parts = refl;
  sorted = sorted;
  below = λ one other member there. absurd (not_in_none one member);
  found = λ pair member. absurd (not_in_none pair member);
  left = found;
  total = refl;
  counts = λ pair member. counted.counts (key_in pair.0) pair.1 (found pair member);
  within = λ pair member. absurd (not_in_none pair member);
  rooms = λ pair i none member below. absurd (not_in_none pair member);
  covers = λ i below. absurd (nothing i below);
}
  where
    nothing : (i : ℕ) → i < 0 → ⊥
    nothing i below = omega (arith, below)

-- the room of the next group
module _ (every : List Listed) (places done rest : List (TableEntry × ℕ)) (pair : TableEntry × ℕ) (groups : List Spot) (long : ℕ)
    (full : AreFull groups places) (was : Begun every places done (pair ∷ rest) groups long) where
  abbrev spot : Spot
  spot = spot_at groups pair.1

  abbrev after : List Spot
  after = set groups pair.1 (spot.0, long)

  abbrev group : List Listed
  group = group_of (key_in pair.0) every

  found_here : (pair.1 < length groups) × (spot.0 ≡ key_in pair.0)
  found_here = full.filled (key_in pair.0) pair.1 (was.left pair (Contains-first pair rest))

  at_place : spot_at after pair.1 ≡ (spot.0, long)
  at_place = get_or-set_same groups pair.1 (spot.0, long) no_spot found_here.0

  elsewhere : (other : TableEntry × ℕ) → other.1 ≢ pair.1 → spot_at after other.1 ≡ spot_at groups other.1
  elsewhere other apart = get_or-set_other groups pair.1 other.1 (spot.0, long) no_spot apart

  same_keys : (other : TableEntry × ℕ) → place_of places (key_in other.0) ≡ Some other.1 → other.1 ≡ pair.1 → key_in other.0 ≡ key_in pair.0
  same_keys other is at = sym (full.filled (key_in other.0) other.1 is).1 ∙ ap (λ p. (spot_at groups p).0) at ∙ found_here.1

  before_it : (other : TableEntry × ℕ) → Contains done other → other.1 ≢ pair.1
  before_it other member at =
      let same = same_keys other (was.found other member) at in
      not_less_itself texts_total (key_in pair.0) (subst (λ k. key_cmp k (key_in pair.0) ≡ Less) same (was.below other pair member (Contains-first pair rest)))

  behind_it : (other : TableEntry × ℕ) → Contains rest other → other.1 ≢ pair.1
  behind_it other member at =
      let same = same_keys other (was.left other (Contains-more pair rest other member)) at in
      not_less_itself texts_total (key_in pair.0) (subst (λ k. key_cmp (key_in pair.0) k ≡ Less) same (below_rest pair rest was.sorted other member))

  with_it : in_order_of every (done ++ pair ∷ []) ≡ in_order_of every done ++ group
  with_it =
      flat_map-append (λ (one : TableEntry × ℕ). group_of (key_in one.0) every) done (pair ∷ [])
      ∙ ap (λ (l : List Listed). in_order_of every done ++ l) (append-nil group)

  longer : length (in_order_of every (done ++ pair ∷ [])) ≡ length (in_order_of every done) + length group
  longer = ap (λ (l : List Listed). length l) with_it ∙ length-append (in_order_of every done) group

  among : (other : TableEntry × ℕ) → Contains (done ++ pair ∷ []) other → Contains done other ⊎ (pair ≡ other)
  among other member = ⊎_elim (λ there. inl there) (λ last. inr (Contains-one pair other last)) (Contains-append_cases done (pair ∷ []) other member)

  old_number : (other : TableEntry × ℕ) → Contains done other → (spot_at after other.1).1 ≡ (spot_at groups other.1).1
  old_number other member = ap (λ (s : Spot). s.1) (elsewhere other (before_it other member))

  number : (spot_at after pair.1).1 ≡ long
  number = ap (λ (s : Spot). s.1) at_place

  pub its_number : spot.1 ≡ length group
  its_number = was.counts pair (Contains-first pair rest)

  pub full_next : AreFull after places
  full_next = full_kept groups places pair.1 (spot.0, long) full found_here.0 refl

  within_next : (other : TableEntry × ℕ) → Contains (done ++ pair ∷ []) other → (spot_at after other.1).1 + length (group_of (key_in other.0) every) ≤ length (in_order_of every (done ++ pair ∷ []))
  within_next other member =
      ⊎_elim
      (λ there.
      let old = was.within other there in
      let same = old_number other there in
      omega (arith, old, same, longer))
      (λ last.
      subst (λ (p : TableEntry × ℕ). (spot_at after p.1).1 + length (group_of (key_in p.0) every) ≤ length (in_order_of every (done ++ pair ∷ []))) last
      (let total = was.total in omega (arith, number, total, longer)))
      (among other member)

  rooms_next : (other : TableEntry × ℕ) (i : ℕ) (none : Listed) → Contains (done ++ pair ∷ []) other → i < length (group_of (key_in other.0) every) →
      get_or (in_order_of every (done ++ pair ∷ [])) ((spot_at after other.1).1 + i) none ≡ get_or (group_of (key_in other.0) every) i none
  rooms_next other i none member below =
      ap (λ (l : List Listed). get_or l ((spot_at after other.1).1 + i) none) with_it
      ∙ ⊎_elim
      (λ there.
      let old = was.within other there in
      let inside : (spot_at groups other.1).1 + i < length (in_order_of every done) = omega (arith, old, below) in
      ap (λ n. get_or (in_order_of every done ++ group) (n + i) none) (old_number other there)
      ∙ get_or_append_left (in_order_of every done) group none ((spot_at groups other.1).1 + i) inside
      ∙ was.rooms other i none there below)
      (λ last.
      ap (λ (p : TableEntry × ℕ). get_or (in_order_of every done ++ group) ((spot_at after p.1).1 + i) none) (sym last)
      ∙ ap (λ n. get_or (in_order_of every done ++ group) (n + i) none) (number ∙ was.total)
      ∙ get_or-append-add (in_order_of every done) group i none
      ∙ ap (λ (p : TableEntry × ℕ). get_or (group_of (key_in p.0) every) i none) last)
      (among other member)

  covers_next : (i : ℕ) → i < length (in_order_of every (done ++ pair ∷ [])) → (other : TableEntry × ℕ) × Contains (done ++ pair ∷ []) other × (j : ℕ) × (j < length (group_of (key_in other.0) every)) × (i ≡ (spot_at after other.1).1 + j)
  covers_next i below =
      ⊎_elim
      (λ inside.
      let old = was.covers i inside in
      (old.0, Contains-append_left done (pair ∷ []) old.0 old.1, old.2, old.3, old.4 ∙ ap (λ n. n + old.2) (sym (old_number old.0 old.1))))
      (λ past.
      let total = was.total in
      (pair, Contains-append_right done (pair ∷ []) pair (Contains-first pair []), i - length (in_order_of every done), omega (arith, past, below, longer), omega (arith, past, number, total)))
      (cases_lt i (length (in_order_of every done)))

  pub next_begun : (now : ℕ) → now ≡ long + spot.1 → Begun every places (done ++ pair ∷ []) rest after now
  next_begun now is = record {
    parts = was.parts ∙ sym (append_assoc done (pair ∷ []) rest);
    sorted = sorted_tail entry_cmp pair.0 (keys_of rest) was.sorted;
    below = λ one other member there.
        ⊎_elim
        (λ before. was.below one other before (Contains-more pair rest other there))
        (λ last. subst (λ (p : TableEntry × ℕ). key_cmp (key_in p.0) (key_in other.0) ≡ Less) last (below_rest pair rest was.sorted other there))
        (among one member);
    found = λ other member.
        ⊎_elim
        (λ there. was.found other there)
        (λ last. subst (λ (p : TableEntry × ℕ). place_of places (key_in p.0) ≡ Some p.1) last (was.left pair (Contains-first pair rest)))
        (among other member);
    left = λ other member. was.left other (Contains-more pair rest other member);
    total = let total = was.total in omega (arith, is, total, its_number, longer);
    counts = λ other member. ap (λ (s : Spot). s.1) (elsewhere other (behind_it other member)) ∙ was.counts other (Contains-more pair rest other member);
    within = within_next;
    rooms = rooms_next;
    covers = covers_next;
  }

-- the pair of a folder and name that is found
pair_of : (places : List (TableEntry × ℕ)) → AreFound places places → (key : Folder × FileName) (place : ℕ) → place_of places key ≡ Some place →
    (pair : TableEntry × ℕ) × Contains places pair × (key_in pair.0 ≡ key) × (pair.1 ≡ place)
pair_of places found key place is =
    let pair = pair_found (is_at (λ (one : TableEntry). key_cmp key (key_in one))) places place is in
    let same : key_in pair.0.0 ≡ key = sym (same_key key (key_in pair.0.0) pair.2) in
    (pair.0, pair.1, same, some_same (sym (found pair.0 pair.1) ∙ ap (place_of places) same ∙ is))

-- all groups have their rooms, and no entry is put yet
module _ (every : List Listed) (places done : List (TableEntry × ℕ)) (groups : List Spot) (entries : List TableEntry) (sorted : IsStrictlySortedBy entry_cmp (keys_of places))
    (absent : (key : Folder × FileName) → place_of places key ≡ None → group_of key every ≡ []) (was : Begun every places done [] groups (length entries)) where
  all_done : done ≡ places
  all_done = sym (was.parts ∙ append-nil done)

  whole : Begun every places places [] groups (length entries)
  whole = subst (λ (l : List (TableEntry × ℕ)). Begun every places l [] groups (length entries)) all_done was

  abbrev base : ℕ → ℕ
  base place = (spot_at groups place).1

  within_room : (key : Folder × FileName) (place : ℕ) → place_of places key ≡ Some place → base place + length (group_of key every) ≤ length (in_order_of every places)
  within_room key place is =
      let pair = pair_of places whole.found key place is in
      subst (λ n. base n + length (group_of key every) ≤ length (in_order_of every places)) pair.3
      (subst (λ k. base pair.0.1 + length (group_of k every) ≤ length (in_order_of every places)) pair.2 (whole.within pair.0 pair.1))

  its_room : (key : Folder × FileName) (place i : ℕ) (none : Listed) → place_of places key ≡ Some place → i < length (group_of key every) → get_or (in_order_of every places) (base place + i) none ≡ get_or (group_of key every) i none
  its_room key place i none is below =
      let pair = pair_of places whole.found key place is in
      let here : i < length (group_of (key_in pair.0.0) every) = subst (λ k. i < length (group_of k every)) (sym pair.2) below in
      subst (λ n. get_or (in_order_of every places) (base n + i) none ≡ get_or (group_of key every) i none) pair.3
      (subst (λ k. get_or (in_order_of every places) (base pair.0.1 + i) none ≡ get_or (group_of k every) i none) pair.2 (whole.rooms pair.0 i none pair.1 here))

  pub none_filled : Filled every [] (grouping groups places entries)
  none_filled = record {
    base = base;
    sorted = sorted;
    places = whole.found;
    absent = absent;
    long = whole.total;
    next = λ key place is. omega arith;
    within = within_room;
    rooms = its_room;
    right = λ key place i none is below. absurd (nothing i below);
    covers = whole.covers;
  }
    where
      nothing : (i : ℕ) → i < 0 → ⊥
      nothing i below = omega (arith, below)

-- lists with the same elements
same_lists : (xs ys : List Listed) → length xs ≡ length ys → ((none : Listed) (i : ℕ) → i < length xs → get_or xs i none ≡ get_or ys i none) → xs ≡ ys
same_lists [] [] long same = refl
same_lists [] (y ∷ ys) long same = absurd (cc)
same_lists (x ∷ xs) ys long same = ext_get_or x (x ∷ xs) ys long (same x)

-- once all entries are put, they are in order
pub all_filled : (every : List Listed) (all : Grouping) → Filled every every all → IsGrouped every all.entries
all_filled every all was =
    regrouped every all.entries all.places was.sorted was.absent
    (same_lists (map listed all.entries) (in_order_of every all.places) (length-map all.entries listed ∙ was.long)
    (λ none i below.
    let long = length-map all.entries listed in
    let total = was.long in
    let found = was.covers i (omega (arith, below, long, total)) in
    subst (λ n. get_or (map listed all.entries) n none ≡ get_or (in_order_of every all.places) n none) (sym found.4)
    (was.right (key_in found.0.0) found.0.1 found.2 none (was.places found.0 found.1) found.3)))
