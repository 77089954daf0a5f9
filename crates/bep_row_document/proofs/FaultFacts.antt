-- Where a row has no fault, none was found.
use Rattle.std.proofs.Common.{◌≡◌, ℕ, Bool, true, false, List, Option, Some, None, refl, subst}
use Rattle.std.specs.Prelude.{if◌then◌else◌}
use Rattle.bep_document.specs.declared.fault.DocFault.{DocFault}
use Rattle.bep_document.specs.declared.fault.Fault.TheVariants.{RecordBad, Twice}
use Rattle.bep_document.specs.faults.Judge.{◌else_at◌}
use Rattle.bep_document.specs.Reading.{Reading, Read, Refused, ◌>>=◌, unless}
use Rattle.bep_json.specs.declared.version.DocVersion.{DocVersion}
use Rattle.bep_row.specs.declared.row.NameRow.{NameRow}
use Rattle.bep_tables.specs.declared.cut.CutParts.{CutParts}
use Rattle.bep_row_document.specs.Faults.{Last, are_bad, fault_in, first_bad, first_bad_pull, first_misplaced, first_twice, first_unordered, first_unshared, is_above, row_fault}
use Rattle.bep_row_document.specs.Reading.{reading_of_row, reading_of_text, row_judged, row_of}
use Rattle.bep_row_document.specs.Text.{RowText}

later_none : (first later : Option DocFault) → (first else_at later) ≡ None → later ≡ None
later_none None later e = e
later_none (Some fault) later e = absurd (cc)

first_none : (first later : Option DocFault) → (first else_at later) ≡ None → first ≡ None
first_none None later e = refl
first_none (Some fault) later e = absurd (cc)

not_so : (b : Bool) (fault : DocFault) → (if b then Some fault else None) ≡ None → b ≡ false
not_so true fault e = absurd (cc)
not_so false fault e = refl

is_so : (b : Bool) (fault : DocFault) → (if b then None else Some fault) ≡ None → b ≡ true
is_so true fault e = refl
is_so false fault e = absurd (cc)

module _ (header : CutParts) (last : Last) (row : RowText) (none : fault_in header last row ≡ None) where
  after_places : (first_unordered last row else_at (first_twice row else_at (first_unshared header row else_at (first_bad row else_at first_bad_pull row)))) ≡ None
  unfolding fault_in
  after_places = later_none (first_misplaced row) _ none

  pub nothing_bad : are_bad row ≡ false
  unfolding first_bad
  nothing_bad =
      not_so (are_bad row) (row_fault RecordBad row.0 row.1.0)
      (first_none (first_bad row) (first_bad_pull row)
      (later_none (first_unshared header row) _ (later_none (first_twice row) _ (later_none (first_unordered last row) _ after_places))))

  pub it_is_above : is_above (row.0, row.1.0) last ≡ true
  unfolding first_unordered
  it_is_above = is_so (is_above (row.0, row.1.0) last) (row_fault Twice row.0 row.1.0) (first_none (first_unordered last row) _ after_places)

-- a row that is read is above the last one
judged_above : (header : CutParts) (last : Last) (text : RowText) (found : Option DocFault) (row : NameRow) → fault_in header last text ≡ found → unless found (row_of text) ≡ Read row → is_above (row.folder, row.name) last ≡ true
unfolding row_of
judged_above header last text None row is read =
    let same : row_of text ≡ row = cc in
    subst (λ (r : NameRow). is_above (r.folder, r.name) last ≡ true) same (it_is_above header last text is)
judged_above header last text (Some fault) row is read = absurd (cc)

text_above : (header : CutParts) (last : Last) (read : Reading RowText) (row : NameRow) → (read >>= row_judged header last) ≡ Read row → is_above (row.folder, row.name) last ≡ true
unfolding row_judged
text_above header last (Read text) row is = judged_above header last text (fault_in header last text) row refl is
text_above header last (Refused fault) row is = absurd (cc)

pub row_is_above : (version : DocVersion) (header : CutParts) (last : Last) (bytes : List ℕ) (row : NameRow) → reading_of_row version header last bytes ≡ Read row → is_above (row.folder, row.name) last ≡ true
unfolding reading_of_row
row_is_above version header last bytes row is = text_above header last (reading_of_text version bytes) row is
