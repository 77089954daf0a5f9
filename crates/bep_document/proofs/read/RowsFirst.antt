-- A check document whose rows are read before its cut.
use Rattle.std.proofs.Common.{◌≡◌, ◌∙◌, List, Option, Some, None, refl, sym, ap, codes}
use Rattle.serde_json.specs.Data.{Data}
use Rattle.serde_json.specs.Find.{get}
use Rattle.bep_json.specs.declared.error.ReadError.{ReadError}
use Rattle.bep_json.specs.declared.error.ReadError.TheVariants.{Range, Memory}
use Rattle.bep_json.specs.Reading.{◌>>=◌, Fails, read_member}
use Rattle.bep_json.specs.declared.version.DocVersion.{DocVersion}
use Rattle.bep_json.specs.Lists.{read_list}
use Rattle.bep_document.specs.declared.parts.FolderParts.{FolderParts}
use Rattle.bep_document.specs.declared.parts.LinkParts.{LinkParts}
use Rattle.bep_document.specs.declared.parts.RowParts.{RowParts}
use Rattle.bep_document.specs.read.Checks.{read_cut, with_rows, read_check_parts}
use Rattle.bep_document.specs.read.Folders.{read_row}

no_rows : (version : DocVersion) (cut : Option (List FolderParts × List LinkParts)) → with_rows version cut None ≡ None
no_rows version None = refl
no_rows version (Some cut) = refl

module _ (version : DocVersion) (d : Data) where
  abbrev cut_read : Option (List FolderParts × List LinkParts)
  cut_read = read_member (codes "cut") (read_cut version) d

  abbrev rows_read : Option (List RowParts)
  rows_read = read_member (codes "certificate") (read_list (read_row version)) d

  pub rows_fail : (error : ReadError) → Fails error rows_read → Fails error (read_check_parts version d)
  unfolding read_check_parts
  rows_fail Range none = ap (with_rows version cut_read) none ∙ no_rows version cut_read
  rows_fail Memory any = tt

  pub cut_fails : None ≡ get (codes "cut") d → read_check_parts version d ≡ None
  unfolding read_check_parts
  cut_fails none = ap (λ found. with_rows version (found >>= read_cut version) rows_read) (sym none)

  pub both_read : (cut : Data) (rows : List RowParts) → Some cut ≡ get (codes "cut") d → rows_read ≡ Some rows → read_check_parts version d ≡ with_rows version (read_cut version cut) (Some rows)
  unfolding read_check_parts
  both_read cut rows there read = ap (λ found. with_rows version (found >>= read_cut version) rows_read) (sym there) ∙ ap (with_rows version (read_cut version cut)) read
