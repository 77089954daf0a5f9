-- The rows of all parts, put in order, are the rows of the whole.
use Rattle.std.proofs.Common.{◌≡◌, ◌⊎◌, true, List, [], ◌∷◌, map, Contains, refl, sym, ap, subst, ◌∙◌, inl, inr, ⊎_elim}
use Rattle.std.specs.List.{flat_map}
use Rattle.std.specs.Ordering.{ordering_reverse}
use Rattle.std.specs.declared.cmp.Ordering.{Ordering}
use Rattle.std.specs.declared.cmp.Ordering.TheVariants.{Less, Equal, Greater}
use Rattle.bep_facts.specs.Members.{not_in_none, Contains-first, Contains-more, Contains-cons_cases, Contains-flat_map, Contains-from_flat_map, Contains-from_image}
use Rattle.bep_facts.specs.Orders.{texts_total, texts_exact}
use Rattle.bep_model.specs.declared.row.Row.{Row}
use Rattle.bep_model.specs.Tables.{Tables, Folder, FileName}
use Rattle.bep_model.specs.Foreign.{IsKnown}
use Rattle.bep_model.specs.Winner.{IsWinner}
use Rattle.bep_model.specs.Settled.{HasRow, IsSettled, Rise, key_of, key_cmp}
use Rattle.bep_model.specs.Firm.{IsFirm}
use Rattle.bep_model.specs.Reasons.{Place}
use Rattle.bep_model.proofs.Faultless.{settled_is_faultless_lem}
use Rattle.bep_model.proofs.FirmVerdicts.{firm_is_faultless_lem}
use Rattle.bep_model.proofs.Winners.{OneChoice, first_is_below, same_row, tail_rises}
use Rattle.bep_parts.specs.Parts.{Keeps, Part, IsInSome, AreRowsOf, only}
use Rattle.bep_parts.specs.Laws.{MergedIsSettled, MergedIsFirm}
use Rattle.bep_parts.proofs.Alike.{IsAlike, known_there, turned, winner_there}
use Rattle.bep_parts.proofs.AsksAlike.{HaveSameRows, asks_firm_if, asks_firm_there, asks_if, asks_there}
use Rattle.bep_parts.proofs.Kept.{rises_below}
use Rattle.bep_parts.proofs.OnlyFacts.{known_kept, only_alike}

-- ---- a row put into its place, unless its name has one already

record IsPut (row : Row) (rows after : List Row) : Type 0 where
  rise : Rise after
  here : HasRow after row.folder row.entry.name
  kept : (other : Row) → Contains rows other → Contains after other
  only : (other : Row) → Contains after other → (row ≡ other) ⊎ Contains rows other

put : (row : Row) (rows : List Row) → Rise rows → (after : List Row) × IsPut row rows after
put row [] rise =
    (row ∷ [], record { rise = tt; here = (row, Contains-first row [], refl); kept = λ other member. absurd (not_in_none other member); only = Contains-cons_cases row [] })
put row (first ∷ more) rise = cases (key_cmp (key_of row) (key_of first)) refl (put row more (tail_rises first more rise))
  where
    cases : (o : Ordering) → key_cmp (key_of row) (key_of first) ≡ o → (after : List Row) × IsPut row more after → (after : List Row) × IsPut row (first ∷ more) after
    cases Less less later = (
      row ∷ first ∷ more,
      record { rise = (less, rise); here = (row, Contains-first row (first ∷ more), refl); kept = Contains-more row (first ∷ more); only = Contains-cons_cases row (first ∷ more) },
    )
    cases Equal tied later = (
      first ∷ more,
      record { rise = rise; here = (first, Contains-first first more, sym (texts_exact (key_of row) (key_of first) tied)); kept = λ other member. member; only = λ other member. inr member },
    )
    cases Greater greater later = (
      first ∷ later.0,
      record {
        rise =
            rises_below first later.0 later.1.rise
            (λ other member.
            ⊎_elim
            (λ same. subst (λ (r : Row). key_cmp (key_of first) (key_of r) ≡ Less) same (texts_total.antisymm (key_of first) (key_of row) ∙ ap ordering_reverse greater))
            (first_is_below first more rise other)
            (later.1.only other member));
        here = (later.1.here.0, Contains-more first later.0 later.1.here.0 later.1.here.1, later.1.here.2);
        kept = λ other member.
            ⊎_elim
            (λ same. subst (Contains (first ∷ later.0)) same (Contains-first first later.0))
            (λ behind. Contains-more first later.0 other (later.1.kept other behind))
            (Contains-cons_cases first more other member);
        only = λ other member.
            ⊎_elim
            (λ same. inr (subst (Contains (first ∷ more)) same (Contains-first first more)))
            (λ behind. ⊎_elim inl (λ old. inr (Contains-more first more other old)) (later.1.only other behind))
            (Contains-cons_cases first later.0 other member);
      },
    )

-- ---- all rows in order, one for each name

pub record AreInOrder (rows after : List Row) : Type 0 where
  pub rise : Rise after
  pub origin : (row : Row) → Contains after row → Contains rows row
  pub all : (row : Row) → Contains rows row → HasRow after row.folder row.entry.name

in_order : (rows : List Row) → (after : List Row) × AreInOrder rows after
in_order [] = ([], record { rise = tt; origin = λ row member. member; all = λ row member. absurd (not_in_none row member) })
in_order (first ∷ more) =
    let before = in_order more in
    let after = put first before.0 before.1.rise in (
      after.0,
      record {
        rise = after.1.rise;
        origin = λ row member.
            ⊎_elim
            (λ same. subst (Contains (first ∷ more)) same (Contains-first first more))
            (λ later. Contains-more first more row (before.1.origin row later))
            (after.1.only row member);
        all = λ row member.
            ⊎_elim
            (λ same. subst (λ (r : Row). HasRow after.0 r.folder r.entry.name) same after.1.here)
            (λ later. let has = before.1.all row later in (has.0, after.1.kept has.0 has.1, has.2))
            (Contains-cons_cases first more row member);
      },
    )

abbrev rows_in : Part → List Row
rows_in part = part.rows

-- ---- the whole

-- some part keeps each known name
abbrev KnownAreKept : Tables → List Part → Type 0
KnownAreKept t parts = (folder : Folder) (name : FileName) → IsKnown t folder name → IsInSome (map (λ (part : Part). part.keeps) parts) folder name

module _ (unique : OneChoice) (t : Tables) (parts : List Part) (known : KnownAreKept t parts) (settled : (part : Part) → Contains parts part → IsSettled (only part.keeps t) part.rows) where
  -- a row of a part is its name's winner in the whole
  record IsOfPart (row : Row) : Type 0 where
    part : Part
    there : Contains parts part
    kept : part.keeps row.folder row.entry.name ≡ true
    is_known : IsKnown t row.folder row.entry.name
    wins : IsWinner t row.folder row.entry.name (row.device, row.entry)

  of_part : (part : Part) → Contains parts part → (row : Row) → Contains part.rows row → IsOfPart row
  of_part part there row member =
      let in_part = ((settled part there).certificate.names row.folder row.entry.name).1 (row, member, refl) in
      let kept = known_kept part.keeps t row.folder row.entry.name in_part in
      let alike = only_alike part.keeps t row.folder row.entry.name kept in
      record {
        part = part;
        there = there;
        kept = kept;
        is_known = known_there (only part.keeps t) t row.folder row.entry.name alike in_part;
        wins = winner_there (only part.keeps t) t row.folder row.entry.name alike (row.device, row.entry) ((settled part there).certificate.winners row member);
      }

  module _ (rows : List Row) (order : AreInOrder (flat_map rows_in parts) rows) where
    origin : (row : Row) → Contains rows row → (part : Part) × Contains parts part × Contains part.rows row
    origin row member = Contains-from_flat_map rows_in parts row (order.origin row member)

    is_of_part : (row : Row) → Contains rows row → IsOfPart row
    is_of_part row member = let from = origin row member in of_part from.0 from.1 row from.2

    -- each row of a part is there, since its name has one winner
    among : (part : Part) → Contains parts part → (row : Row) → Contains part.rows row → Contains rows row
    among part there row member =
        let has = order.all row (Contains-flat_map rows_in parts part row there member) in
        subst (Contains rows) (same_row unique t has.0 row has.2 (is_of_part has.0 has.1).wins (of_part part there row member).wins) has.1

    are_rows_of : AreRowsOf parts rows
    are_rows_of row = (origin row, λ from. among from.0 from.1 row from.2)

    -- of a name that a part keeps it has all rows
    in_part : (part : Part) → Contains parts part → (folder : Folder) (name : FileName) → part.keeps folder name ≡ true → (row : Row) → key_of row ≡ (folder, name) → Contains rows row → Contains part.rows row
    in_part part there folder name kept row key member =
        let of = is_of_part row member in
        let alike = only_alike part.keeps t folder name kept in
        let is_known = subst (λ (k : Folder × FileName). IsKnown t k.0 k.1) key of.is_known in
        let has = ((settled part there).certificate.names folder name).0 (known_there t (only part.keeps t) folder name (turned (only part.keeps t) t folder name alike) is_known) in
        subst (Contains part.rows) (same_row unique t has.0 row (has.2 ∙ sym key) (of_part part there has.0 has.1).wins of.wins) has.1

    -- a part that keeps a name is asked of it what the whole is asked
    record IsKeeper (place : Place) : Type 0 where
      part : Part
      there : Contains parts part
      alike : IsAlike (only part.keeps t) t place.folder place.name
      same : HaveSameRows part.rows rows place.folder place.name

    keeper : (part : Part) → Contains parts part → (place : Place) → part.keeps place.folder place.name ≡ true → IsKeeper place
    keeper part there place kept = record {
      part = part;
      there = there;
      alike = only_alike part.keeps t place.folder place.name kept;
      same = record { rise = order.rise; there = λ row key. among part there row; back = in_part part there place.folder place.name kept };
    }

    keeper_of : (place : Place) → IsKnown t place.folder place.name ⊎ HasRow rows place.folder place.name → IsKeeper place
    keeper_of place some =
        ⊎_elim
        (λ is_known.
        let in_some = known place.folder place.name is_known in
        let from = Contains-from_image (λ (part : Part). part.keeps) parts in_some.0 in_some.1 in
        keeper from.0 from.1 place (subst (λ (keeps : Keeps). keeps place.folder place.name ≡ true) (sym from.2) in_some.2))
        (λ has.
        let of = is_of_part has.0 has.1 in
        keeper of.part of.there place (subst (λ (k : Folder × FileName). of.part.keeps k.0 k.1 ≡ true) has.2 of.kept))
        some

    pub whole_is_settled : IsSettled t rows
    whole_is_settled =
        (settled_is_faultless_lem t rows).1
        (λ reason place.
        asks_if t rows place order.rise reason
        (λ some.
        let by = keeper_of place some in
        asks_there (only by.part.keeps t) t by.part.rows rows place by.alike by.same reason
        ((settled_is_faultless_lem (only by.part.keeps t) by.part.rows).0 (settled by.part by.there) reason place)))

    pub whole_is_firm : ((part : Part) → Contains parts part → IsFirm (only part.keeps t) part.rows) → IsFirm t rows
    whole_is_firm firm =
        (firm_is_faultless_lem t rows).1 (
          whole_is_settled,
          λ reason place.
              asks_firm_if t rows place reason
              (λ some.
              let by = keeper_of place some in
              asks_firm_there (only by.part.keeps t) t by.part.rows rows place by.alike by.same reason
              (((firm_is_faultless_lem (only by.part.keeps t) by.part.rows).0 (firm by.part by.there)).1 reason place)),
        )

pub merged_is_settled_lem : OneChoice → MergedIsSettled
merged_is_settled_lem unique t parts known settled =
    let all = in_order (flat_map rows_in parts) in
    (all.0, whole_is_settled unique t parts known settled all.0 all.1, are_rows_of unique t parts known settled all.0 all.1)

pub merged_is_firm_lem : OneChoice → MergedIsFirm
merged_is_firm_lem unique t parts known firm =
    let all = in_order (flat_map rows_in parts) in
    let settled = λ (part : Part) (there : Contains parts part). (firm part there).settled in
    (all.0, whole_is_firm unique t parts known settled all.0 all.1 firm, are_rows_of unique t parts known settled all.0 all.1)
