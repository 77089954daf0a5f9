-- What a row's text says of a device, item by item (this project's profile).
use Rattle.std.specs.Prelude.{ℕ, ◌-◌, ◌==◌, ◌||◌, nat_lt, not, Bool, List, length, Option, Some, None, if◌then◌else◌}
use Rattle.std.specs.List.{list_any}
use Rattle.bep_record.specs.declared.limits.TheConstants.{MAX_DEVICES}
use Rattle.bep_row_document.specs.Text.{CellText, ViewText}

-- the place from 0, if there is one
abbrev pub place_of : ℕ → Option ℕ
place_of number = if number == 0 then None else Some (number - 1)

-- a view's place is beyond a list of so many records
abbrev pub are_views_misplaced : ℕ → List ViewText → Bool
are_views_misplaced records views = list_any (λ view. nat_lt records view.1.0) views

-- one of the places is beyond the row's lists, of so many records and nodes
abbrev pub is_misplaced : ℕ → ℕ → CellText → Bool
is_misplaced records nodes cell =
    nat_lt records cell.1.0 || (nat_lt nodes cell.1.1.0 || (nat_lt records cell.1.1.1.0 || are_views_misplaced records cell.1.1.1.1.0))

-- the cell says that the device has something of the name
abbrev pub says_something : CellText → Bool
says_something cell =
    not (cell.1.0 == 0) || (not (cell.1.1.0 == 0) || (not (cell.1.1.1.0 == 0) || not (length cell.1.1.1.1.0 == 0)))

-- the cell lists more views than there may be devices
abbrev pub has_many_views : CellText → Bool
has_many_views cell = nat_lt MAX_DEVICES (length cell.1.1.1.1.0)
