-- The reading of a check document: what its bytes say, or the one fault for which it is refused. The smallest number
-- that applies is told, at its first place (this project's profile).
use Rattle.std.specs.Prelude.{◌≡◌, ℕ, nat_le, Bool, ⊤, List, [], length, Option, Some, None, Result, Ok, Err, if◌then◌else◌, codes}
use Rattle.std.specs.Borrow.{Bor}
use Rattle.serde_json.specs.Data.{Data}
use Rattle.serde_json.specs.Find.{get}
use Rattle.bep_tree.specs.Names.{has_only}
use Rattle.bep_tree.specs.Read.{tree_of}
use Rattle.bep_document.specs.declared.error.DocError.{DocError}
use Rattle.bep_document.specs.declared.error.DocError.TheVariants as errors
use Rattle.bep_document.specs.declared.fault.DocFault.{DocFault}
use Rattle.bep_document.specs.declared.fault.Fault.{Fault}
use Rattle.bep_document.specs.declared.fault.Fault.TheVariants.{NotJson, VersionBad, Shape, Range}
use Rattle.bep_document.specs.declared.parts.FolderParts.{FolderParts}
use Rattle.bep_document.specs.declared.parts.LinkParts.{LinkParts}
use Rattle.bep_document.specs.declared.parts.CheckParts.{CheckParts}
use Rattle.bep_json.specs.declared.told.Misread.{Misread}
use Rattle.bep_json.specs.declared.told.Misread.TheVariants as misread
use Rattle.bep_json.specs.declared.version.DocVersion.{DocVersion}
use Rattle.bep_document.specs.Fault.{nowhere}
use Rattle.bep_document.specs.faults.Judge.{◌else_at◌}
use Rattle.bep_document.specs.faults.Twice.{first_twice}
use Rattle.bep_document.specs.faults.Unshared.{first_unshared}
use Rattle.bep_document.specs.faults.Records.{first_bad}
use Rattle.bep_document.specs.faults.Sequences.{first_bad_sequence}
use Rattle.bep_document.specs.faults.Links.{first_bad_link}
use Rattle.bep_json.specs.Tree.{names_of}
use Rattle.bep_document.specs.read.Checks.{is_cut, read_cut, doc_version, check_members, is_check, read_check_parts}

-- a thing, or the fault in place of it
pub data Reading (T : Type 0) : Type 0 where
  Read : T → Reading T
  Refused : DocFault → Reading T

-- the refusal is the fault, unless memory ran out
abbrev pub IsRefusal : {T : Type 0} → DocError → Reading T → Type 0
IsRefusal (errors.Refused fault) reading = reading ≡ Refused fault
IsRefusal errors.Memory reading = ⊤

-- the answer is what was read, seen by a view, or the fault; or memory ran out
abbrev pub AnswersBy : {X T : Type 0} → (X → T) → Result X DocError → Reading T → Type 0
AnswersBy view (Ok x) reading = reading ≡ Read (view x)
AnswersBy view (Err error) reading = IsRefusal error reading

-- the same, where what is read is seen as it is
abbrev pub Answers : {T : Type 0} → Result T DocError → Reading T → Type 0
Answers answer reading = AnswersBy (λ x. x) answer reading

-- the answer is what was read or the fault, and nothing else: no memory is asked for
abbrev pub Tells : {T : Type 0} → Result T DocFault → Reading T → Type 0
Tells (Ok x) reading = reading ≡ Read x
Tells (Err fault) reading = reading ≡ Refused fault

-- what is read of a thing that was told along a document's text
abbrev pub of_told : {T : Type 0} → Result T Misread → Reading T
of_told (Ok thing) = Read thing
of_told (Err misread.Shape) = Refused (nowhere Shape)
of_told (Err misread.Range) = Refused (nowhere Range)

-- the second step, if the first gave a thing
infixl 10 ◌>>=◌
abbrev pub ◌>>=◌ : {A B : Type 0} → Reading A → (A → Reading B) → Reading B
(Read x) >>= next = next x
(Refused fault) >>= next = Refused fault

-- the thing, if there is one; else a fault of the whole document
abbrev pub given : {T : Type 0} → Fault → Option T → Reading T
given fault None = Refused (nowhere fault)
given fault (Some x) = Read x

-- the thing, if it passes a test; else a fault of the whole document
abbrev pub passed : {T : Type 0} → Fault → (T → Bool) → T → Reading T
passed fault test x = if test x then Read x else Refused (nowhere fault)

-- the thing, where there is no fault
abbrev pub unless : {T : Type 0} → Option DocFault → T → Reading T
unless None x = Read x
unless (Some fault) x = Refused fault

-- the most bytes of a document
abbrev pub most_bytes : ℕ
most_bytes = 67108864

-- a document isn't too long
abbrev pub is_short : List ℕ → Bool
is_short bytes = nat_le (length bytes) most_bytes

-- the tree of a document's bytes, which aren't too many
abbrev pub document_tree : List ℕ → Reading Data
document_tree bytes = do
  short ← passed Range is_short bytes
  given NotJson (tree_of short)

-- the answer is a text in which the tree stands that was read, and the version that it says; or the fault; or memory ran out
abbrev pub AnswersVersioned : Result (DocVersion × Bor (List ℕ)) DocError → Reading Data → Type 0
AnswersVersioned (Ok (version, text)) reading = (d : Data) × (reading ≡ Read d) × (tree_of text.now ≡ Some d) × (doc_version d ≡ Some version)
AnswersVersioned (Err error) reading = IsRefusal error (reading >>= λ d. given VersionBad (doc_version d))

-- what bytes say, by what their tree says
abbrev pub of_bytes : {T : Type 0} → (Data → Reading T) → List ℕ → Reading T
of_bytes of_tree bytes = document_tree bytes >>= of_tree

-- what a tree of this shape says, where there is no fault
abbrev pub of_shape : {T : Type 0} → (Data → Bool) → (Data → Option T) → (T → Option DocFault) → Data → Reading T
of_shape has_shape reads fault_of tree = do
  shaped ← passed Shape has_shape tree
  found ← given Range (reads shaped)
  unless (fault_of found) found

-- the first fault that has a place: what stands twice, then what isn't shared, then what isn't well formed, then a
-- sequence, then a link
unfoldable pub first_fault : CheckParts → Option DocFault
first_fault parts =
    first_twice parts
    else_at (first_unshared parts
    else_at (first_bad parts
    else_at (first_bad_sequence parts
    else_at first_bad_link parts)))

-- what the tree of a document says
unfoldable pub reading_of_tree : Data → Reading CheckParts
reading_of_tree tree = do
  version ← given VersionBad (doc_version tree)
  of_shape (is_check version) (read_check_parts version) first_fault tree

-- what the bytes of a document say
unfoldable pub reading_of : List ℕ → Reading CheckParts
reading_of bytes = of_bytes reading_of_tree bytes

-- a cut alone of a document of this version: its folders and links, and no rows
abbrev pub without_rows : DocVersion → List FolderParts × List LinkParts → CheckParts
without_rows version cut = record { version = version; folders = cut.0; links = cut.1; certificate = [] }

-- what the tree of a cut says, by itself, as in documents of this version; it says no version, and is no document of bytes
unfoldable pub reading_of_cut : DocVersion → Data → Reading CheckParts
reading_of_cut version tree = do
  shaped ← passed Shape (is_cut version) tree
  cut ← given Range (read_cut version shaped)
  unless (first_fault (without_rows version cut)) (without_rows version cut)

-- what bytes say of a cut alone
abbrev pub reading_of_cut_text : DocVersion → List ℕ → Reading CheckParts
reading_of_cut_text version bytes = given NotJson (tree_of bytes) >>= reading_of_cut version

-- what the tree of a check document says of its cut; a certificate may be missing, and isn't looked at
unfoldable pub reading_of_cut_in : Data → Reading CheckParts
reading_of_cut_in tree = do
  version ← given VersionBad (doc_version tree)
  listed ← passed Shape (has_only (names_of (check_members version))) tree
  cut ← given Shape (get (codes "cut") listed)
  reading_of_cut version cut

-- what the bytes of a check document say of its cut
unfoldable pub reading_of_cut_document : List ℕ → Reading CheckParts
reading_of_cut_document bytes = of_bytes reading_of_cut_in bytes
