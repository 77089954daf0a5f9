-- Why a row is refused beside its header; the smallest number that applies is told, at its first place (this project's profile).
use Rattle.std.specs.Prelude.{ℕ, ◌==◌, ◌&&◌, ◌||◌, not, nat_eq, nat_lt, Bool, true, false, List, [], length, Option, Some, None, slice_get, if◌then◌else◌}
use Rattle.std.specs.Cmp.Lexicographic.{pointwise}
use Rattle.std.specs.List.{list_any}
use Rattle.std.specs.Ordering.{is_lt}
use Rattle.bep_record.specs.declared.entry.Entry.{Entry}
use Rattle.bep_record.specs.declared.limits.TheConstants.{MAX_DEVICES}
use Rattle.bep_json.specs.declared.nodes.NamedParts.{NamedParts}
use Rattle.bep_document.specs.declared.fault.DocFault.{DocFault}
use Rattle.bep_document.specs.declared.fault.Fault.{Fault}
use Rattle.bep_document.specs.declared.fault.Fault.TheVariants.{Range, Twice, Unshared, RecordBad}
use Rattle.bep_document.specs.Fault.{at_name, nowhere}
use Rattle.bep_document.specs.faults.Judge.{◌else_at◌, first_in}
use Rattle.bep_document.specs.faults.Records.{is_node, is_well_formed}
use Rattle.bep_model.specs.Settled.{key_cmp}
use Rattle.bep_tables.specs.declared.cut.CutParts.{CutParts}
use Rattle.bep_tables.specs.declared.share.Share.{Share}
use Rattle.bep_tables.specs.Cut.{shares_of}
use Rattle.bep_row_document.specs.Cell.{has_many_views, is_misplaced, place_of, says_something}
use Rattle.bep_row_document.specs.Text.{CellText, RowText, ViewText}

-- these are more than there may be devices
unfoldable pub are_many : List CellText → Bool
are_many cells = nat_lt MAX_DEVICES (length cells)

-- one of the lists is longer than there may be devices: that of the devices, or that of one's views
abbrev pub is_crowded : RowText → Bool
is_crowded row = are_many row.1.1.1.1.0 || list_any has_many_views row.1.1.1.1.0

-- a place is beyond the row's lists, or the row says nothing of its name
abbrev pub are_places_wrong : RowText → Bool
are_places_wrong row =
    list_any (is_misplaced (length row.1.1.0) (length row.1.1.1.0)) row.1.1.1.1.0 || not (list_any says_something row.1.1.1.1.0)

-- ---- the order of rows

-- the name of the row before, if there was one
abbrev pub Last : Type 0
Last = Option (List ℕ × List ℕ)

-- the name is above it, by folder and then name
abbrev pub is_above : List ℕ × List ℕ → Last → Bool
is_above key None = true
is_above key (Some last) = is_lt (key_cmp last key)

-- ---- what stands twice

-- the device has a view of this one already
abbrev pub view_again : List ℕ → List ℕ → ℕ → List ViewText → ViewText → Option DocFault
view_again folder name device earlier view =
    if list_any (λ known. known.0 == view.0) earlier then Some (at_name Twice folder device name) else None

-- one of these is of the device
unfoldable pub has_cell : List CellText → ℕ → Bool
has_cell cells device = list_any (λ known. known.0 == device) cells

-- the row speaks of the device already, or twice of a view of it
abbrev pub cell_again : List ℕ → List ℕ → List CellText → CellText → Option DocFault
cell_again folder name earlier cell =
    if has_cell earlier cell.0 then Some (at_name Twice folder cell.0 name)
    else first_in (view_again folder name cell.0) [] cell.1.1.1.1.0

-- ---- what the header hasn't

-- the device shares the folder
abbrev pub has_share : List Share → ℕ → Bool
has_share shares device = list_any (λ share. share.device == device) shares

-- it has a view of the other one
abbrev pub views : ℕ → ℕ → Share → Bool
views device of share = (share.device == device) && list_any (λ view. view.of == of) share.views

abbrev pub has_view : List Share → ℕ → ℕ → Bool
has_view shares device of = list_any (views device of) shares

-- the header has no such view
abbrev pub stranger : List ℕ → List ℕ → List Share → ℕ → List ViewText → ViewText → Option DocFault
stranger folder name shares device earlier view = if has_view shares device view.0 then None else Some (at_name Unshared folder device name)

-- the device doesn't share the folder, or the header hasn't one of its views
abbrev pub unshared : List ℕ → List ℕ → List Share → List CellText → CellText → Option DocFault
unshared folder name shares earlier cell =
    if has_share shares cell.0 then first_in (stranger folder name shares cell.0) [] cell.1.1.1.1.0 else Some (at_name Unshared folder cell.0 name)

-- ---- records and nodes

-- a fault of the row's name, at no device
abbrev pub row_fault : Fault → List ℕ → List ℕ → DocFault
row_fault fault folder name = record { fault = fault; folder = Some folder; device = None; name = Some name }

-- the fields aren't a record of this name
abbrev pub is_bad_record : List ℕ → Entry → Bool
is_bad_record name entry = not (is_well_formed entry) || not (pointwise nat_eq entry.name name)

-- the parts aren't a node of this name
abbrev pub is_bad_node : List ℕ → NamedParts → Bool
is_bad_node name node = not (is_node node.parts) || not (pointwise nat_eq node.name name)

-- a record or a node of the row is bad
abbrev pub are_bad : RowText → Bool
are_bad row = list_any (is_bad_record row.1.0) row.1.1.0 || list_any (is_bad_node row.1.0) row.1.1.1.0

-- the record at the place is invalid
abbrev pub is_invalid_at : List Entry → Option ℕ → Bool
is_invalid_at entries None = false
is_invalid_at entries (Some place) = is_invalid (slice_get entries place)
  where
    is_invalid : Option Entry → Bool
    is_invalid None = false
    is_invalid (Some entry) = entry.invalid

-- what the device pulls is invalid
abbrev pub bad_pull : List ℕ → List ℕ → List Entry → List CellText → CellText → Option DocFault
bad_pull folder name entries earlier cell =
    if is_invalid_at entries (place_of cell.1.1.1.0) then Some (at_name RecordBad folder cell.0 name) else None

-- ---- all

unfoldable pub first_misplaced : RowText → Option DocFault
first_misplaced row = if is_crowded row || are_places_wrong row then Some (nowhere Range) else None

unfoldable pub first_unordered : Last → RowText → Option DocFault
first_unordered last row = if is_above (row.0, row.1.0) last then None else Some (row_fault Twice row.0 row.1.0)

unfoldable pub first_twice : RowText → Option DocFault
first_twice row = first_in (cell_again row.0 row.1.0) [] row.1.1.1.1.0

unfoldable pub first_unshared : CutParts → RowText → Option DocFault
first_unshared header row = first_in (unshared row.0 row.1.0 (shares_of row.0 header.folders)) [] row.1.1.1.1.0

unfoldable pub first_bad : RowText → Option DocFault
first_bad row = if are_bad row then Some (row_fault RecordBad row.0 row.1.0) else None

unfoldable pub first_bad_pull : RowText → Option DocFault
first_bad_pull row = first_in (bad_pull row.0 row.1.0 row.1.1.0) [] row.1.1.1.1.0

-- the row's first fault beside the header, but for its sequences: a list's length or a place, then its order, then what stands twice, then what the header hasn't,
-- then a record or a node, then what is pulled
unfoldable pub fault_in : CutParts → Last → RowText → Option DocFault
fault_in header last row =
    first_misplaced row
    else_at (first_unordered last row
    else_at (first_twice row
    else_at (first_unshared header row
    else_at (first_bad row
    else_at first_bad_pull row))))
