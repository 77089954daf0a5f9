-- The header of a stream of rows: the cut of a check document that has no names (this project's profile).
use Rattle.std.specs.Prelude.{ℕ, ◌==◌, ◌&&◌, ◌||◌, not, Bool, List, length, if◌then◌else◌}
use Rattle.std.specs.FinMap.{len}
use Rattle.std.specs.List.{list_any}
use Rattle.bep_cut_document.specs.Written.{cut_of_document}
use Rattle.bep_document.specs.Fault.{nowhere}
use Rattle.bep_document.specs.Reading.{Reading, Read, Refused, ◌>>=◌}
use Rattle.bep_document.specs.declared.fault.Fault.TheVariants.{Shape}
use Rattle.bep_json.specs.declared.version.DocVersion.{DocVersion}
use Rattle.bep_tables.specs.declared.cut.CutParts.{CutParts}
use Rattle.bep_tables.specs.declared.share.Share.{Share}

-- the device has a record, a node, a pull or a view with a record
abbrev pub share_has_names : Share → Bool
share_has_names share =
    not (len share.own == 0) || (not (len share.store == 0) || (not (len share.pulls == 0) || list_any (λ view. not (len view.records == 0)) share.views))

-- some device has, or something is on its way
abbrev pub has_names : CutParts → Bool
has_names header =
    list_any (λ shared. list_any share_has_names shared.shares) header.folders
    || list_any (λ link. not ((length link.to_a == 0) && (length link.to_b == 0))) header.links

-- the version and the header, where it has no names
abbrev pub bare : DocVersion × CutParts → Reading (DocVersion × CutParts)
bare said = if has_names said.1 then Refused (nowhere Shape) else Read said

-- what the bytes of a header say
unfoldable pub reading_of_header : List ℕ → Reading (DocVersion × CutParts)
reading_of_header bytes = cut_of_document bytes >>= bare
