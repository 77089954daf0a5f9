-- What a walk along a document's text reads.
use Rattle.std.specs.Prelude.{◌≡◌, ℕ, List, Option, None, Some, Result, Ok, Err, if◌then◌else◌, codes}
use Rattle.std.specs.Borrow.{Bor}
use Rattle.serde_json.specs.Data.{Data}
use Rattle.serde_json.specs.Find.{get}
use Rattle.bep_json.specs.declared.told.Misread.{Misread}
use Rattle.bep_json.specs.declared.told.Misread.TheVariants as misread
use Rattle.bep_json.specs.declared.version.DocVersion.{DocVersion}
use Rattle.bep_json.specs.Taking.{due, slot}
use Rattle.bep_json.specs.Tree.{names_of}
use Rattle.bep_json.specs.Version.{version_of}
use Rattle.bep_tree.specs.Names.{has_only}
use Rattle.bep_tree.specs.Read.{tree_of}
use Rattle.bep_tree.specs.declared.walk.WalkError.{WalkError}
use Rattle.bep_tree.specs.declared.walk.WalkError.TheVariants as walk
use Rattle.bep_document.specs.Fault.{nowhere}
use Rattle.bep_document.specs.Reading.{Reading, Read, IsRefusal, ◌>>=◌, of_told, first_fault, unless, without_rows}
use Rattle.bep_document.specs.declared.error.DocError.{DocError}
use Rattle.bep_document.specs.declared.error.DocError.TheVariants as errors
use Rattle.bep_document.specs.declared.fault.Fault.TheVariants.{NotJson}
use Rattle.bep_document.specs.declared.parts.CheckParts.{CheckParts}
use Rattle.bep_document.specs.declared.parts.FolderParts.{FolderParts}
use Rattle.bep_document.specs.declared.parts.LinkParts.{LinkParts}
use Rattle.bep_document.specs.read.Checks.{is_cut, read_cut, check_members, doc_version}

-- the error of a walk that goes no further
abbrev pub error_of : WalkError → DocError
error_of walk.Broken = errors.Refused (nowhere NotJson)
error_of walk.Memory = errors.Memory

-- the answer is a text in which the tree stands that was read, and the version that it says; or the fault; or memory ran out
abbrev pub AnswersText : Result (Bor (List ℕ) × Option DocVersion) DocError → Reading Data → Type 0
AnswersText (Ok said) reading = (d : Data) × (reading ≡ Read d) × (tree_of said.0.now ≡ Some d) × (said.1 ≡ doc_version d)
AnswersText (Err error) reading = IsRefusal error reading

-- what is read of parts that were told
abbrev pub parts_read : Result CheckParts Misread → Reading CheckParts
parts_read told = of_told told >>= λ parts. unless (first_fault parts) parts

-- a cut that was told, with no rows
abbrev pub cut_parts : DocVersion → Result (List FolderParts × List LinkParts) Misread → Result CheckParts Misread
cut_parts version (Ok cut) = Ok (without_rows version cut)
cut_parts version (Err error) = Err error

-- what is told of the cut of a check document
abbrev pub cut_in_told : DocVersion → Data → Result (List FolderParts × List LinkParts) Misread
cut_in_told version d = if has_only (names_of (check_members version)) d then due (slot (is_cut version) (read_cut version) (get (codes "cut") d)) else Err misread.Shape
