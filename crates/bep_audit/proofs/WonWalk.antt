-- The rows of the winners of the known names that a walk has come past.
use Rattle.std.proofs.Common.{◌≡◌, ◌⊎◌, ◌<◌, ◌+◌, ℕ, List, [], ◌∷◌, ◌++◌, length, get_or, map, drop, Contains, Option, Some, None, refl, sym, subst, ◌∙◌, inl, inr, ⊎_elim, arith}
use Rattle.std.specs.declared.cmp.Ordering.TheVariants.{Less}
use Rattle.std.proofs.lemmas.List.Elements.{Contains-append_left, Contains-append_right, Contains-append_cases}
use Rattle.bep_facts.specs.Members.{Contains-first, Contains-more, Contains-one, Contains-cons_cases, not_in_none}
use Rattle.bep_facts.specs.Orders.{texts_total, not_less_itself}
use Rattle.bep_model.specs.declared.row.Row.{Row}
use Rattle.bep_model.specs.Foreign.{IsKnown}
use Rattle.bep_model.specs.Settled.{key_of, key_cmp, Rise, HasRow, IsListOfWinners}
use Rattle.bep_model.specs.Reasons.{Place}
use Rattle.bep_model.specs.Tables.{Tables, Device}
use Rattle.bep_model.specs.Winner.{IsWinner}
use Rattle.bep_model.specs.WithoutWinner.{IsWithoutWinner, IsFirstWithoutWinner}
use Rattle.bep_tables.specs.declared.cut.CutParts.{CutParts}
use Rattle.bep_tables.specs.declared.table.entry.TableEntry.{TableEntry}
use Rattle.bep_tables.specs.Cut.{IsCut, tables_of}
use Rattle.bep_tables.specs.Listed.{IsGrouped, cut_listed}
use Rattle.bep_tables.specs.Said.{EntriesAreHeld, HoldersShare}
use Rattle.bep_audit.specs.declared.spot.Spot.{Spot}
use Rattle.bep_audit.specs.Shown.{place_shown}
use Rattle.bep_audit.specs.Certifier.{IsWon, AddsName, AreWinners, PlacesRise, place_of}
use Rattle.bep_audit.specs.inner.Walk.{next_key, count_at}
use Rattle.bep_audit.proofs.GroupWalk.{Stands, next, same_or_not, stands_at_first, unlisted_is_unknown, stands_afterwards, table_left, smaller_at}
use Rattle.bep_audit.proofs.NameWalk.{Key, IsUnder, IsNext, Remains, none_left, was_left, left_above, left_or_here}

-- ---- a row that comes last
rise_with : (rows : List Row) (row : Row) → Rise rows → ((one : Row) → Contains rows one → key_cmp (key_of one) (key_of row) ≡ Less) → Rise (rows ++ row ∷ [])
rise_with [] row rise under = tt
rise_with (one ∷ []) row rise under = (under one (Contains-first one []), tt)
rise_with (one ∷ next ∷ more) row rise under = (rise.0, rise_with (next ∷ more) row rise.1 (λ other member. under other (Contains-more one (next ∷ more) other member)))

module _ (rows : List Row) (last : Row) where
  old_or_last : (row : Row) → Contains (rows ++ last ∷ []) row → Contains rows row ⊎ (last ≡ row)
  old_or_last row member = ⊎_elim inl (λ here. inr (Contains-one last row here)) (Contains-append_cases rows (last ∷ []) row member)

  with_old : (key : Key) → HasRow rows key.0 key.1 → HasRow (rows ++ last ∷ []) key.0 key.1
  with_old key has = (has.0, Contains-append_left rows (last ∷ []) has.0 has.1, has.2)

  with_last : HasRow (rows ++ last ∷ []) last.folder last.entry.name
  with_last = (last, Contains-append_right rows (last ∷ []) last (Contains-first last []), refl)

-- ---- a place that comes last
places_rise_with : (places : List Place) (place : Place) → PlacesRise places → ((one : Place) → Contains places one → key_cmp (one.folder, one.name) (place.folder, place.name) ≡ Less) → PlacesRise (places ++ place ∷ [])
places_rise_with [] place rise under = tt
places_rise_with (one ∷ []) place rise under = (under one (Contains-first one []), tt)
places_rise_with (one ∷ next ∷ more) place rise under = (rise.0, places_rise_with (next ∷ more) place rise.1 (λ other member. under other (Contains-more one (next ∷ more) other member)))

old_or_last_place : (places : List Place) (last one : Place) → Contains (places ++ last ∷ []) one → Contains places one ⊎ (last ≡ one)
old_or_last_place places last one member = ⊎_elim inl (λ here. inr (Contains-one last one here)) (Contains-append_cases places (last ∷ []) one member)

-- ---- the walk
module _ (cut : CutParts) where
  abbrev T : Tables
  T = tables_of cut

  -- these entries are left, and these are the rows and the places of the other known names
  pub record Won (entries : List TableEntry) (rows : List Row) (places : List Place) : Type 0 where
    pub stands : Stands cut [] entries []
    pub rise : Rise rows
    pub winners : (row : Row) → Contains rows row → IsWinner T row.folder row.entry.name (row.device, row.entry)
    pub known : (row : Row) → Contains rows row → IsKnown T row.folder row.entry.name
    pub places_rise : PlacesRise places
    pub unwon : (place : Place) → Contains places place → IsWithoutWinner T place.folder place.name × (place.device ≡ None)
    pub has : (key : Key) → ¬ Remains entries [] key → IsKnown T key.0 key.1 → HasRow rows key.0 key.1 ⊎ Contains places (place_of key)
    pub below : (row : Row) → Contains rows row → (key : Key) → Remains entries [] key → IsUnder (key_of row) key
    pub places_below : (place : Place) → Contains places place → (key : Key) → Remains entries [] key → IsUnder (place.folder, place.name) key

  -- it starts
  pub won_starts : EntriesAreHeld → HoldersShare → IsCut cut → (table : List TableEntry) → IsGrouped (cut_listed cut) table → Won table [] []
  won_starts held share is_cut table grouped = record {
    stands = stands_at_first cut [] table grouped tt;
    rise = tt;
    winners = λ row member. absurd (not_in_none row member);
    known = λ row member. absurd (not_in_none row member);
    places_rise = tt;
    unwon = λ place member. absurd (not_in_none place member);
    has = λ key none known. absurd (unlisted_is_unknown cut [] table grouped held share is_cut key none known);
    below = λ row member. absurd (not_in_none row member);
    places_below = λ place member. absurd (not_in_none place member);
  }

  -- it ends
  pub won_ends : (entries : List TableEntry) (rows : List Row) (places : List Place) → Won entries rows places → next_key entries [] ≡ None → AreWinners T rows places
  won_ends entries rows places won none = record {
    rise = won.rise;
    names = λ folder name. (
      λ both.
          ⊎_elim (λ has. has) (λ lacks. absurd ((won.unwon (place_of (folder, name)) lacks).0.unwon both.1.0 both.1.1))
          (won.has (folder, name) (none_left entries [] none (folder, name)) both.0),
      λ has. (
        subst (λ (k : Key). IsKnown T k.0 k.1) has.2 (won.known has.0 has.1),
        ((has.0.device, has.0.entry), subst (λ (k : Key). IsWinner T k.0 k.1 (has.0.device, has.0.entry)) has.2 (won.winners has.0 has.1)),
      ),
    );
    winners = won.winners;
    places_rise = won.places_rise;
    exact = λ place. (
      won.unwon place,
      λ without.
          let there = λ (lacks : Contains places (place_of (place.folder, place.name))). subst (λ (d : Option Device). Contains places (record { folder = place.folder; name = place.name; device = d })) (sym without.1) lacks in
          ⊎_elim
          (λ has. absurd (without.0.unwon (has.0.device, has.0.entry) (subst (λ (k : Key). IsWinner T k.0 k.1 (has.0.device, has.0.entry)) has.2 (won.winners has.0 has.1))))
          there
          (won.has (place.folder, place.name) (none_left entries [] none (place.folder, place.name)) without.0.known),
    );
    either = λ folder name. won.has (folder, name) (none_left entries [] none (folder, name));
  }

  module _ (entries : List TableEntry) (rows : List Row) (places : List Place) (won : Won entries rows places) (key : Key) (is : next_key entries [] ≡ Some key) where
    here : IsNext entries [] key
    here = next cut [] entries [] won.stands key is

    abbrev Left : Key → Type 0
    Left other = Remains (drop (count_at key entries) entries) [] other

    -- what isn't left was not left, or is the name
    gone_or_here : (other : Key) → ¬ Left other → (¬ Remains entries [] other) ⊎ (other ≡ key)
    gone_or_here other none =
        ⊎_elim inr
        (λ apart. inl (λ remains. ⊎_elim none apart (left_or_here entries [] key won.stands.order tt here other remains)))
        (same_or_not other key)

    below_left : (row : Row) → Contains rows row → (other : Key) → Left other → IsUnder (key_of row) other
    below_left row member other left = won.below row member other (was_left entries [] key won.stands.order tt here other left)

    places_below_left : (place : Place) → Contains places place → (other : Key) → Left other → IsUnder (place.folder, place.name) other
    places_below_left place member other left = won.places_below place member other (was_left entries [] key won.stands.order tt here other left)

    -- it passes a name that isn't known
    won_passes : ¬ IsKnown T key.0 key.1 → Won (drop (count_at key entries) entries) rows places
    won_passes unknown = record {
      stands = stands_afterwards cut [] entries [] won.stands key is;
      rise = won.rise;
      winners = won.winners;
      known = won.known;
      places_rise = won.places_rise;
      unwon = won.unwon;
      has = λ other none known.
          ⊎_elim
          (λ gone. won.has other gone known)
          (λ same. absurd (unknown (subst (λ (k : Key). IsKnown T k.0 k.1) same known)))
          (gone_or_here other none);
      below = below_left;
      places_below = places_below_left;
    }

    -- it adds the row of one that is
    won_adds : IsKnown T key.0 key.1 → (row : Row) → IsWon T key row → Won (drop (count_at key entries) entries) (rows ++ row ∷ []) places
    won_adds is_known row wins = record {
      stands = stands_afterwards cut [] entries [] won.stands key is;
      rise = rise_with rows row won.rise (λ one member. subst (IsUnder (key_of one)) (sym wins.0) (won.below one member key here.remains));
      winners = λ one member.
          ⊎_elim
          (λ old. won.winners one old)
          (λ last. subst (λ (r : Row). IsWinner T r.folder r.entry.name (r.device, r.entry)) last (subst (λ (k : Key). IsWinner T k.0 k.1 (row.device, row.entry)) (sym wins.0) wins.1))
          (old_or_last rows row one member);
      known = λ one member.
          ⊎_elim
          (λ old. won.known one old)
          (λ last. subst (λ (r : Row). IsKnown T r.folder r.entry.name) last (subst (λ (k : Key). IsKnown T k.0 k.1) (sym wins.0) is_known))
          (old_or_last rows row one member);
      places_rise = won.places_rise;
      unwon = won.unwon;
      has = λ other none known.
          ⊎_elim
          (λ gone. ⊎_elim (λ has. inl (with_old rows row other has)) (λ lacks. inr lacks) (won.has other gone known))
          (λ same. inl (subst (λ (k : Key). HasRow (rows ++ row ∷ []) k.0 k.1) (wins.0 ∙ sym same) (with_last rows row)))
          (gone_or_here other none);
      below = λ one member other left.
          ⊎_elim
          (λ old. below_left one old other left)
          (λ last. subst (λ (r : Row). IsUnder (key_of r) other) last (subst (λ (k : Key). IsUnder k other) (sym wins.0) (left_above entries [] key won.stands.order tt here other left)))
          (old_or_last rows row one member);
      places_below = places_below_left;
    }

    -- it adds the place of one that has no winner
    won_lacks : IsWithoutWinner T key.0 key.1 → Won (drop (count_at key entries) entries) rows (places ++ place_of key ∷ [])
    won_lacks without = record {
      stands = stands_afterwards cut [] entries [] won.stands key is;
      rise = won.rise;
      winners = won.winners;
      known = won.known;
      places_rise = places_rise_with places (place_of key) won.places_rise (λ one member. won.places_below one member key here.remains);
      unwon = λ place member.
          ⊎_elim
          (λ old. won.unwon place old)
          (λ last. subst (λ (p : Place). IsWithoutWinner T p.folder p.name × (p.device ≡ None)) last (without, refl))
          (old_or_last_place places (place_of key) place member);
      has = λ other none known.
          ⊎_elim
          (λ gone. ⊎_elim (λ has. inl has) (λ lacks. inr (Contains-append_left places (place_of key ∷ []) (place_of other) lacks)) (won.has other gone known))
          (λ same. inr (subst (λ (k : Key). Contains (places ++ place_of key ∷ []) (place_of k)) (sym same) (Contains-append_right places (place_of key ∷ []) (place_of key) (Contains-first (place_of key) []))))
          (gone_or_here other none);
      below = below_left;
      places_below = λ place member other left.
          ⊎_elim
          (λ old. places_below_left place old other left)
          (λ last. subst (λ (p : Place). IsUnder (p.folder, p.name) other) last (left_above entries [] key won.stands.order tt here other left))
          (old_or_last_place places (place_of key) place member);
    }

    -- it goes on
    won_goes_on : (new : List Row) (more : List Place) → AddsName T key rows new places more → Won (drop (count_at key entries) entries) new more
    won_goes_on new more (inl adds) =
        subst (λ (ps : List Place). Won (drop (count_at key entries) entries) new ps) (sym adds.2)
        (subst (λ (rs : List Row). Won (drop (count_at key entries) entries) rs places) (sym adds.1.2) (won_adds adds.0 adds.1.0 adds.1.1))
    won_goes_on new more (inr (inl lacks)) =
        subst (λ (ps : List Place). Won (drop (count_at key entries) entries) new ps) (sym lacks.2)
        (subst (λ (rs : List Row). Won (drop (count_at key entries) entries) rs (places ++ place_of key ∷ [])) (sym lacks.1) (won_lacks lacks.0))
    won_goes_on new more (inr (inr passes)) =
        subst (λ (ps : List Place). Won (drop (count_at key entries) entries) new ps) (sym passes.2)
        (subst (λ (rs : List Row). Won (drop (count_at key entries) entries) rs places) (sym passes.1) (won_passes passes.0))

-- ---- the walk by its places
module _ (cut : CutParts) (table : List TableEntry) (at : ℕ) (rows : List Row) (places : List Place) (won : Won cut (drop at table) rows places) (key : Key) (is : next_key (drop at table) [] ≡ Some key) (n : ℕ) (held : n ≡ count_at key (drop at table)) where
  pub won_goes_on_at : (new : List Row) (more : List Place) → AddsName (tables_of cut) key rows new places more → Won cut (drop (at + n) table) new more
  won_goes_on_at new more adds =
      subst (λ (entries : List TableEntry). Won cut entries new more) (sym (table_left cut [] table at 0 won.stands key is n 0 held refl))
      (won_goes_on cut (drop at table) rows places won key is new more adds)

  pub won_shorter_at : length (drop (at + n) table) < length (drop at table)
  won_shorter_at = let less = smaller_at cut [] table at 0 won.stands key is n 0 held refl in omega (arith, less)

-- ---- what a certificate needs

-- where each known name has a winner, the rows are their list
pub all_won : (t : Tables) (rows : List Row) → AreWinners t rows [] → IsListOfWinners t rows
all_won t rows are = record {
  rise = are.rise;
  names = λ folder name. (
    λ known. ⊎_elim (λ has. has) (λ lacks. absurd (not_in_none (place_of (folder, name)) lacks)) (are.either folder name known),
    λ has. ((are.names folder name).1 has).0,
  );
  winners = are.winners;
}

-- the first of the places is below the others
below_first : (first : Place) (more : List Place) → PlacesRise (first ∷ more) → (other : Place) → Contains more other → key_cmp (first.folder, first.name) (other.folder, other.name) ≡ Less
below_first first [] rise other member = absurd (not_in_none other member)
below_first first (next ∷ more) rise other member =
    ⊎_elim
    (λ same. subst (λ (p : Place). key_cmp (first.folder, first.name) (p.folder, p.name) ≡ Less) same rise.0)
    (λ later. texts_total.trans (first.folder, first.name) (next.folder, next.name) (other.folder, other.name) rise.0 (below_first next more rise.1 other later))
    (Contains-cons_cases next more other member)

-- it is the first name without winner
pub first_unwon : (t : Tables) (rows : List Row) (first : Place) (more : List Place) → AreWinners t rows (first ∷ more) → IsFirstWithoutWinner t first.folder first.name
first_unwon t rows first more are = record {
  without = ((are.exact first).0 (Contains-first first more)).0;
  first = λ folder name known less.
      ⊎_elim
      (λ has. ((are.names folder name).1 has).1)
      (λ lacks.
      absurd
      (⊎_elim
      (λ same. not_less_itself texts_total (first.folder, first.name) (subst (λ (p : Place). key_cmp (p.folder, p.name) (first.folder, first.name) ≡ Less) (sym same) less))
      (λ later. not_less_itself texts_total (folder, name) (texts_total.trans (folder, name) (first.folder, first.name) (folder, name) less (below_first first more are.places_rise (place_of (folder, name)) later)))
      (Contains-cons_cases first more (place_of (folder, name)) lacks)))
      (are.either folder name known);
}

-- ---- the same of places that are lent

pub all_won_lent : (t : Tables) (rows : List Row) (lent : List Spot) → length lent < 1 → AreWinners t rows (map place_shown lent) → IsListOfWinners t rows
all_won_lent t rows [] none are = all_won t rows are
all_won_lent t rows (one ∷ more) none are = absurd (omega (arith, none))

pub first_unwon_lent : (t : Tables) (rows : List Row) (lent : List Spot) (first : Spot) → 0 < length lent → first ≡ get_or lent 0 first → AreWinners t rows (map place_shown lent) → IsFirstWithoutWinner t first.folder.now first.name.now
first_unwon_lent t rows [] first some is are = absurd (omega (arith, some))
first_unwon_lent t rows (one ∷ more) first some is are =
    subst (λ (spot : Spot). IsFirstWithoutWinner t spot.folder.now spot.name.now) (sym is) (first_unwon t rows (place_shown one) (map place_shown more) are)
