-- The report on a cut: its verdict, and a line for each folder (this project's profile).
use Rattle.std.specs.Prelude.{ℕ, ◌+◌, ◌++◌, Bool, if◌then◌else◌, List, [], ◌∷◌, length}
use Rattle.std.specs.List.{list_any}
use Rattle.std.specs.FinMap.{contains_key, keys, len}
use Rattle.bep_model.specs.FirmVerdict.{FirmVerdict}
use Rattle.bep_model.specs.Tables.{FileName}
use Rattle.bep_model.specs.Verdict.{Verdict}
use Rattle.bep_tables.specs.declared.cut.CutParts.{CutParts}
use Rattle.bep_tables.specs.declared.share.Share.{Share}
use Rattle.bep_tables.specs.declared.share.SharedFolder.{SharedFolder}
use Rattle.bep_tables.specs.Names.{known_names}
use Rattle.bep_lines.specs.Lines.{verdict_line, firm_verdict_line, folder_line}

-- some device's store holds the name
abbrev pub is_stored : List Share → FileName → Bool
is_stored shares name = list_any (λ share. contains_key share.store name) shares

-- how many of these names no store holds
abbrev pub count_deleted : List Share → List FileName → ℕ
count_deleted shares [] = 0
count_deleted shares (name ∷ more) = (if is_stored shares name then 0 else 1) + count_deleted shares more

-- the line of a folder of the cut
unfoldable pub folder_text : CutParts → SharedFolder → List ℕ
folder_text cut held =
    let names = known_names cut held.folder in
    folder_line held.folder (len names) (count_deleted held.shares (keys names)) (length held.shares)

-- the lines of these folders
abbrev pub folders_text : CutParts → List SharedFolder → List ℕ
folders_text cut [] = []
folders_text cut (held ∷ more) = folder_text cut held ++ folders_text cut more

-- the report: the verdict, then the folders
abbrev pub report_text : CutParts → Verdict → List ℕ
report_text cut verdict = verdict_line verdict ++ folders_text cut cut.folders

-- the same where firm is asked for
abbrev pub firm_report_text : CutParts → FirmVerdict → List ℕ
firm_report_text cut verdict = firm_verdict_line verdict ++ folders_text cut cut.folders
