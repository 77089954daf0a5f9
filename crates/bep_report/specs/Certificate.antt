-- The lines of a certificate (this project's profile).
use Rattle.std.specs.Prelude.{◌++◌, ℕ, List, [], ◌∷◌, Bool, true, false, codes}
use Rattle.std.specs.List.{concat, flat_map}
use Rattle.std.specs.Fmt.{decimal}
use Rattle.bep_record.specs.declared.kind.Kind.{Kind}
use Rattle.bep_record.specs.declared.kind.Kind.TheVariants.{File, Directory, Symlink}
use Rattle.bep_model.specs.declared.row.Row.{Row}
use Rattle.bep_lines.specs.Lines.{newline}
use Rattle.bep_lines.specs.Text.{printed}

-- the number by which the protocol tells a kind (BEP v1, 'FileInfo', field 'type')
abbrev pub type_text : Kind → List ℕ
type_text File = codes "0"
type_text Directory = codes "1"
type_text Symlink = codes "4"

-- whether the record is of a deletion
abbrev pub state_text : Bool → List ℕ
state_text true = codes "deleted"
state_text false = codes "present"

abbrev pub counter_text : ℕ × ℕ → List ℕ
counter_text counter = decimal counter.0 ++ (codes ":" ++ decimal counter.1)

-- each of these counters after a comma
abbrev pub further_text : List (ℕ × ℕ) → List ℕ
further_text [] = []
further_text (counter ∷ more) = (codes "," ++ counter_text counter) ++ further_text more

-- a version vector: its counters between commas, `-` where it has none
abbrev pub version_text : List (ℕ × ℕ) → List ℕ
version_text [] = codes "-"
version_text (counter ∷ more) = counter_text counter ++ further_text more

-- the words of a row: folder, name, the winning device, and its record's kind, state and version
abbrev pub row_words : Row → List ℕ
row_words row =
    concat (row.folder ∷ codes " " ∷ printed row.entry.name ∷ codes " " ∷ decimal row.device ∷ codes " " ∷ type_text row.entry.kind ∷ codes " "
    ∷ state_text row.entry.deleted ∷ codes " " ∷ version_text row.entry.version ∷ [])

-- the line of a row
abbrev pub row_line : Row → List ℕ
row_line row = row_words row ++ newline

-- the lines of a certificate, a line a row
abbrev pub certificate_lines : List Row → List ℕ
certificate_lines rows = flat_map row_line rows

-- the line of a row with one word more: its record's block size
abbrev pub row_line_2 : Row → List ℕ
row_line_2 row = row_words row ++ concat (codes " " ∷ decimal row.entry.block_size ∷ newline ∷ [])

-- the lines of a certificate with the block sizes, a line a row
abbrev pub certificate_lines_2 : List Row → List ℕ
certificate_lines_2 rows = flat_map row_line_2 rows
