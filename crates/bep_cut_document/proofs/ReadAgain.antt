-- The bytes of a check document are read as its tree is.
use Rattle.std.proofs.Common.{◌≡◌, ◌≤◌, ℕ, Bool, true, List, length, map, Option, Some, None, Result, Ok, Err, IfOk, ap, ◌∙◌, if◌then◌else◌}
use Rattle.std.specs.Str.{is_utf8}
use Rattle.std.proofs.lemmas.Bool.{le-leb}
use Rattle.serde_json.specs.Data.{Data}
use Rattle.serde_json.specs.Read.{read}
use Rattle.bep_document.specs.declared.error.DocError.{DocError}
use Rattle.bep_document.specs.declared.fault.Fault.TheVariants.{NotJson, Range}
use Rattle.bep_document.specs.declared.parts.CheckParts.{CheckParts}
use Rattle.bep_document.specs.Fault.{nowhere}
use Rattle.bep_document.specs.Faultless.{IsFaultless, CutsAreFaultless}
use Rattle.bep_json.specs.declared.version.DocVersion.{DocVersion}
use Rattle.bep_document.specs.Reading.{Answers, Reading, Read, Refused, ◌>>=◌, given, is_short, most_bytes, reading_of, reading_of_tree, reading_of_cut, reading_of_cut_text}
use Rattle.bep_tree.specs.Read.{tree_of}
use Rattle.bep_model.specs.declared.row.Row.{Row}
use Rattle.bep_tables.specs.declared.cut.CutParts.{CutParts}
use Rattle.bep_cut_document.specs.Written.{check_of, check_of_tree, cut_written, row_written}

reading_as : (bytes : List ℕ) (tree : Data) → is_utf8 bytes ≡ true → read bytes ≡ Some tree → length bytes ≤ most_bytes → reading_of bytes ≡ reading_of_tree tree
unfolding reading_of
reading_as bytes tree text is few =
    let short : is_short bytes ≡ true = le-leb (length bytes) most_bytes few in
    ap (λ (b : Bool). ((if b then Read bytes else Refused (nowhere Range)) >>= (λ (whole : List ℕ). given NotJson (tree_of whole))) >>= reading_of_tree) short
    ∙ ap (λ (b : Bool). given NotJson (if b then read bytes else None) >>= reading_of_tree) text
    ∙ ap (λ (found : Option Data). given NotJson found >>= reading_of_tree) is

-- what bytes say of a cut is what their tree says
pub cut_text_as : (version : DocVersion) (bytes : List ℕ) (tree : Data) → is_utf8 bytes ≡ true → read bytes ≡ Some tree → reading_of_cut_text version bytes ≡ reading_of_cut version tree
cut_text_as version bytes tree text is =
    ap (λ (b : Bool). given NotJson (if b then read bytes else None) >>= reading_of_cut version) text
    ∙ ap (λ (found : Option Data). given NotJson found >>= reading_of_cut version) is

-- a cut that bytes say has no fault, since their tree says it
pub cut_text_faultless : (version : DocVersion) (bytes : List ℕ) (answer : Result CheckParts DocError) → CutsAreFaultless → Answers answer (reading_of_cut_text version bytes) → IfOk answer IsFaultless
cut_text_faultless version bytes (Err error) cuts says = tt
cut_text_faultless version bytes (Ok parts) cuts says = of_tree (tree_of bytes) says
  where
    of_tree : (found : Option Data) → given NotJson found >>= reading_of_cut version ≡ Read parts → IsFaultless parts
    of_tree None says = absurd (different says) where
      different : Refused (nowhere NotJson) ≡ Read parts → ⊥
      different d = cc
    of_tree (Some tree) says = cuts version tree parts says

pub read_again : (bytes : List ℕ) (tree : Data) (cut : CutParts) (rows : List Row) → is_utf8 bytes ≡ true → read bytes ≡ Some tree → length bytes ≤ most_bytes →
    check_of_tree tree ≡ Read (cut, rows) → check_of bytes ≡ Read (cut, rows)
read_again bytes tree cut rows text is few says =
    ap (λ (reading : Reading CheckParts). reading >>= (λ (parts : CheckParts). Read (cut_written parts.folders parts.links, map row_written parts.certificate))) (reading_as bytes tree text is few) ∙ says
