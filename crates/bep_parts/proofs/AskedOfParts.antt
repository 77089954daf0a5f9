-- A part is asked at the names that it keeps what the whole is asked there, and nothing at other names. So the whole is settled,
-- or firm, where its parts are.
use Rattle.std.proofs.Common.{◌≡◌, ◌⊎◌, Bool, true, false, not, List, [], ◌∷◌, Contains, refl, ap, subst, ◌∙◌, ⊎_elim}
use Rattle.bep_facts.specs.Members.{Contains-first, Contains-more, Contains-pair_cases}
use Rattle.bep_model.specs.declared.row.Row.{Row}
use Rattle.bep_model.specs.Tables.{Tables, Folder, FileName}
use Rattle.bep_model.specs.Foreign.{IsKnown}
use Rattle.bep_model.specs.Settled.{HasRow, Rise, IsSettled, key_of}
use Rattle.bep_model.specs.Firm.{IsFirm}
use Rattle.bep_model.specs.Reasons.{Place}
use Rattle.bep_model.proofs.Faultless.{settled_is_faultless_lem}
use Rattle.bep_model.proofs.FirmVerdicts.{firm_is_faultless_lem}
use Rattle.bep_parts.specs.Parts.{Keeps, IsInSome, all_but, only, rows_of}
use Rattle.bep_parts.specs.Laws.{FaultsByParts, FirmFaultsByParts, FirmByManyParts, FirmByParts, PartsOfFirm, PartsOfSettled, SettledByManyParts, SettledByParts}
use Rattle.bep_parts.proofs.Alike.{IsAlike, turned}
use Rattle.bep_parts.proofs.AsksAlike.{HaveSameRows, asks_firm_if, asks_firm_there, asks_if, asks_there}
use Rattle.bep_parts.proofs.Kept.{has_row_was, rise_kept, row_kept, row_was}
use Rattle.bep_parts.proofs.OnlyFacts.{known_kept, only_alike}

-- ---- what a part is asked

module _ (t : Tables) (keeps : Keeps) (rows : List Row) (rise : Rise rows) (place : Place) where
  -- what the part knows, or has a row of, is kept
  some_kept : IsKnown (only keeps t) place.folder place.name ⊎ HasRow (rows_of keeps rows) place.folder place.name → keeps place.folder place.name ≡ true
  some_kept some =
      ⊎_elim (known_kept keeps t place.folder place.name) (λ has. (has_row_was keeps rows place.folder place.name has).1) some

  module _ (kept : keeps place.folder place.name ≡ true) where
    alike : IsAlike (only keeps t) t place.folder place.name
    alike = only_alike keeps t place.folder place.name kept

    -- of a kept name the part has the rows of the whole
    there : (row : Row) → key_of row ≡ (place.folder, place.name) → Contains rows row → Contains (rows_of keeps rows) row
    there row key member = row_kept keeps rows row member ((λ i. keeps (key i).0 (key i).1) ∙ kept)

    was : (row : Row) → key_of row ≡ (place.folder, place.name) → Contains (rows_of keeps rows) row → Contains rows row
    was row key member = (row_was keeps rows row member).0

    same_whole : HaveSameRows (rows_of keeps rows) rows place.folder place.name
    same_whole = record { rise = rise; there = was; back = there }

    same_part : HaveSameRows rows (rows_of keeps rows) place.folder place.name
    same_part = record { rise = rise_kept keeps rows rise; there = there; back = was }

pub faults_by_parts_lem : FaultsByParts
faults_by_parts_lem t keeps rows rise reason place = (
  λ asks kept. asks_there (only keeps t) t (rows_of keeps rows) rows place (alike t keeps rows rise place kept) (same_whole t keeps rows rise place kept) reason asks,
  λ asks.
      asks_if (only keeps t) (rows_of keeps rows) place (rise_kept keeps rows rise) reason
      (λ some.
      let kept = some_kept t keeps rows rise place some in
      asks_there t (only keeps t) rows (rows_of keeps rows) place (turned (only keeps t) t place.folder place.name (alike t keeps rows rise place kept)) (same_part t keeps rows rise place kept) reason (asks kept)),
)

pub firm_faults_by_parts_lem : FirmFaultsByParts
firm_faults_by_parts_lem t keeps rows rise reason place = (
  λ asks kept. asks_firm_there (only keeps t) t (rows_of keeps rows) rows place (alike t keeps rows rise place kept) (same_whole t keeps rows rise place kept) reason asks,
  λ asks.
      asks_firm_if (only keeps t) (rows_of keeps rows) place reason
      (λ some.
      let kept = some_kept t keeps rows rise place some in
      asks_firm_there t (only keeps t) rows (rows_of keeps rows) place (turned (only keeps t) t place.folder place.name (alike t keeps rows rise place kept)) (same_part t keeps rows rise place kept) reason (asks kept)),
)

-- ---- the parts of the whole

pub parts_of_settled : PartsOfSettled
parts_of_settled t keeps rows settled =
    (settled_is_faultless_lem (only keeps t) (rows_of keeps rows)).1
    (λ reason place.
    (faults_by_parts_lem t keeps rows settled.certificate.rise reason place).1
    (λ kept. (settled_is_faultless_lem t rows).0 settled reason place))

pub parts_of_firm : PartsOfFirm
parts_of_firm t keeps rows firm =
    (firm_is_faultless_lem (only keeps t) (rows_of keeps rows)).1 (
      parts_of_settled t keeps rows firm.settled,
      λ reason place.
          (firm_faults_by_parts_lem t keeps rows firm.settled.certificate.rise reason place).1
          (λ kept. ((firm_is_faultless_lem t rows).0 firm).1 reason place),
    )

-- ---- the whole of any number of parts

pub settled_by_many_parts : SettledByManyParts
settled_by_many_parts t parts rows rise each settled =
    (settled_is_faultless_lem t rows).1
    (λ reason place.
    let some = each place.folder place.name in
    (faults_by_parts_lem t some.0 rows rise reason place).0
    ((settled_is_faultless_lem (only some.0 t) (rows_of some.0 rows)).0 (settled some.0 some.1) reason place)
    some.2)

pub firm_by_many_parts : FirmByManyParts
firm_by_many_parts t parts rows rise each firm =
    (firm_is_faultless_lem t rows).1 (
      settled_by_many_parts t parts rows rise each (λ keeps there. (firm keeps there).settled),
      λ reason place.
          let some = each place.folder place.name in
          (firm_faults_by_parts_lem t some.0 rows rise reason place).0
          (((firm_is_faultless_lem (only some.0 t) (rows_of some.0 rows)).0 (firm some.0 some.1)).1 reason place)
          some.2,
    )

-- ---- the whole of two parts

module _ (keeps : Keeps) where
  abbrev both : List Keeps
  both = keeps ∷ all_but keeps ∷ []

  in_one_of_both : (folder : Folder) (name : FileName) → IsInSome both folder name
  in_one_of_both folder name = cases (keeps folder name) refl
    where
      cases : (b : Bool) → keeps folder name ≡ b → IsInSome both folder name
      cases true is = (keeps, Contains-first keeps (all_but keeps ∷ []), is)
      cases false is = (all_but keeps, Contains-more keeps (all_but keeps ∷ []) (all_but keeps) (Contains-first (all_but keeps) []), ap not is)

  of_both : (P : Keeps → Type 0) → P keeps → P (all_but keeps) → (one : Keeps) → Contains both one → P one
  of_both P first rest one there =
      ⊎_elim (λ same. subst P same first) (λ same. subst P same rest) (Contains-pair_cases keeps (all_but keeps) one there)

pub settled_by_parts_lem : SettledByParts
settled_by_parts_lem t keeps rows rise first rest =
    settled_by_many_parts t (both keeps) rows rise (in_one_of_both keeps)
    (of_both keeps (λ (one : Keeps). IsSettled (only one t) (rows_of one rows)) first rest)

pub firm_by_parts_lem : FirmByParts
firm_by_parts_lem t keeps rows rise first rest =
    firm_by_many_parts t (both keeps) rows rise (in_one_of_both keeps)
    (of_both keeps (λ (one : Keeps). IsFirm (only one t) (rows_of one rows)) first rest)
