-- Lists of rows with one more.
use Rattle.std.proofs.Common.{◌≡◌, List, [], ◌∷◌, ◌++◌, Some, refl}
use Rattle.std.specs.List.{AllZip}
use Rattle.bep_row.specs.declared.row.NameRow.{NameRow}
use Rattle.bep_row_document.specs.Faults.{Last}
use Rattle.bep_rows.specs.AllRows.{key_of_row}
use Rattle.bep_rows_answer.specs.Auditor.{last_of}

pub last_more : (last : Last) (rows : List NameRow) (row : NameRow) → last_of last (rows ++ row ∷ []) ≡ Some (key_of_row row)
last_more last [] row = refl
last_more last (first ∷ rows) row = last_more (Some (key_of_row first)) rows row

-- what holds of rows and as many things, place by place, holds with one more of each
pub zip_more : {X Y : Type 0} (P : X → Y → Type 0) (xs : List X) (ys : List Y) (x : X) (y : Y) → AllZip P xs ys → P x y → AllZip P (xs ++ x ∷ []) (ys ++ y ∷ [])
zip_more P [] [] x y all here = (here, tt)
zip_more P [] (one ∷ ys) x y all here = absurd all
zip_more P (first ∷ xs) [] x y all here = absurd all
zip_more P (first ∷ xs) (one ∷ ys) x y all here = (all.0, zip_more P xs ys x y all.1 here)
