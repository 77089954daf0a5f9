-- What is read of bytes as a row, by their tree.
use Rattle.std.proofs.Common.{◌≡◌, ℕ, List, Option, Some, None, ap}
use Rattle.serde_json.specs.Data.{Data}
use Rattle.bep_json.specs.declared.version.DocVersion.{DocVersion}
use Rattle.bep_json.specs.Taking.{judged}
use Rattle.bep_tree.specs.Read.{tree_of}
use Rattle.bep_document.specs.Reading.{Reading, Refused, ◌>>=◌, given, of_told}
use Rattle.bep_document.specs.Fault.{nowhere}
use Rattle.bep_document.specs.declared.fault.Fault.TheVariants.{NotJson}
use Rattle.bep_row_document.specs.Reading.{reading_of_text}
use Rattle.bep_row_document.specs.Text.{RowText, is_row, read_row}

told_of : DocVersion → Data → Reading RowText
told_of version tree = of_told (judged (is_row version tree) (read_row version tree))

pub no_json : (version : DocVersion) (bytes : List ℕ) → tree_of bytes ≡ None → reading_of_text version bytes ≡ Refused (nowhere NotJson)
unfolding reading_of_text told_of
no_json version bytes none = ap (λ found. given NotJson found >>= told_of version) none

pub told_text : (version : DocVersion) (bytes : List ℕ) (tree : Data) → tree_of bytes ≡ Some tree → reading_of_text version bytes ≡ of_told (judged (is_row version tree) (read_row version tree))
unfolding reading_of_text told_of
told_text version bytes tree is = ap (λ found. given NotJson found >>= told_of version) is
