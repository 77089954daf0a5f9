-- What is told of a document, as its reading.
use Rattle.std.proofs.Common.{◌≡◌, ◌∙◌, ℕ, Bool, true, false, List, [], Option, Some, None, Err, refl, sym, ap, arith}
use Rattle.std.specs.Prelude.{codes, if◌then◌else◌, option_and_then, is_some}
use Rattle.std.proofs.lemmas.Bool.Decides.{nat_tests}
use Rattle.serde_json.specs.Data.{Data, Num, unsigned, negative, float}
use Rattle.serde_json.specs.Find.{as_number, as_integer, as_u64, get}
use Rattle.bep_json.specs.declared.version.DocVersion.{DocVersion}
use Rattle.bep_json.specs.Numbers.{is_whole, read_number, within}
use Rattle.bep_json.specs.Reading as json
use Rattle.bep_json.specs.Taking.{judged, due, slot}
use Rattle.bep_json.specs.Tree.{names_of}
use Rattle.bep_json.specs.Version.{version_of}
use Rattle.bep_tree.specs.Names.{has_only}
use Rattle.bep_tree.specs.Number.{number_at, whole_number}
use Rattle.bep_tree.specs.Read.{tree_of}
use Rattle.bep_tree.specs.Walk.{Stands}
use Rattle.bep_tree.proofs.OneValue.{value_of_document}
use Rattle.json.specs.Lex.{tokens}
use Rattle.bep_document.specs.Reading.{Reading, Read, Refused, IsRefusal, ◌>>=◌, given, passed, of_told, of_shape, first_fault, unless, without_rows, reading_of_tree, reading_of_cut, reading_of_cut_in}
use Rattle.bep_document.specs.declared.fault.DocFault.{DocFault}
use Rattle.bep_document.specs.declared.fault.Fault.TheVariants.{VersionBad, Shape, Range}
use Rattle.bep_document.specs.declared.parts.CheckParts.{CheckParts}
use Rattle.bep_document.specs.declared.parts.FolderParts.{FolderParts}
use Rattle.bep_document.specs.declared.parts.LinkParts.{LinkParts}
use Rattle.bep_document.specs.Fault.{nowhere}
use Rattle.bep_document.specs.declared.error.DocError.{DocError}
use Rattle.bep_document.specs.declared.error.DocError.TheVariants as errors
use Rattle.bep_json.specs.declared.told.Misread.TheVariants as misread
use Rattle.bep_document.specs.inner.Texts.{parts_read, cut_parts, cut_in_told}
use Rattle.bep_document.specs.read.Checks.{is_cut, read_cut, doc_version, read_doc_version, check_members, is_check, read_check_parts}

-- ---- the version

number_version : (number : Option ℕ) → option_and_then version_of number ≡ json.◌>>=◌ number version_of
number_version None = refl
number_version (Some n) = refl

found_number : (found : Option Data) → option_and_then version_of (option_and_then whole_number found) ≡ json.◌>>=◌ found read_doc_version
found_number None = refl
found_number (Some d) = number_version (whole_number d)

pub version_is : (d : Data) → option_and_then version_of (number_at (codes "version") d) ≡ doc_version d
version_is d = found_number (get (codes "version") d)

-- ---- what a document says

-- what is told of a value is what is read of it
pub shape_told : {T : Type 0} (shape : Bool) (read : Option T) (fault_of : T → Option DocFault) (d : Data) (reads : Data → Option T) → reads d ≡ read
    → (of_told (judged shape read) >>= λ found. unless (fault_of found) found) ≡ of_shape (λ _. shape) reads fault_of d
shape_told false read fault_of d reads is = refl
shape_told true None fault_of d reads is = sym (ap (λ r. given Range r >>= λ found. unless (fault_of found) found) is)
shape_told true (Some thing) fault_of d reads is = sym (ap (λ r. given Range r >>= λ found. unless (fault_of found) found) is)

pub check_reading : (version : DocVersion) (d : Data) → doc_version d ≡ Some version → parts_read (judged (is_check version d) (read_check_parts version d)) ≡ reading_of_tree d
unfolding reading_of_tree
check_reading version d is =
    shape_told (is_check version d) (read_check_parts version d) first_fault d (read_check_parts version) refl
    ∙ sym (ap (λ v. given VersionBad v >>= λ known. of_shape (is_check known) (read_check_parts known) first_fault d) is)

-- ---- a document that says no version

-- where the fault is that there is no version, that is what is read, whatever comes next
pub no_version_stays : {T : Type 0} (error : DocError) (reading : Reading Data) (next : DocVersion → Data → Reading T)
    → IsRefusal error (reading >>= λ d. given VersionBad (doc_version d)) → IsRefusal error (reading >>= λ d. given VersionBad (doc_version d) >>= λ version. next version d)
no_version_stays errors.Memory reading next is = tt
no_version_stays (errors.Refused fault) (Refused other) next is = cc
no_version_stays (errors.Refused fault) (Read d) next is = ap (λ r. r >>= λ version. next version d) is

-- ---- what a cut says

of_cut_told : (version : DocVersion) (shape : Bool) (read : Option (List FolderParts × List LinkParts)) (d : Data) (reads : Data → Option (List FolderParts × List LinkParts)) → reads d ≡ read
    → parts_read (cut_parts version (judged shape read))
    ≡ ((if shape then Read d else Refused (nowhere Shape)) >>= λ shaped. given Range (reads shaped) >>= λ cut. unless (first_fault (without_rows version cut)) (without_rows version cut))
of_cut_told version false read d reads is = refl
of_cut_told version true None d reads is = sym (ap (λ r. given Range r >>= λ cut. unless (first_fault (without_rows version cut)) (without_rows version cut)) is)
of_cut_told version true (Some cut) d reads is = sym (ap (λ r. given Range r >>= λ cut. unless (first_fault (without_rows version cut)) (without_rows version cut)) is)

pub cut_reading : (version : DocVersion) (d : Data) → parts_read (cut_parts version (judged (is_cut version d) (read_cut version d))) ≡ reading_of_cut version d
unfolding reading_of_cut
cut_reading version d = of_cut_told version (is_cut version d) (read_cut version d) d (read_cut version) refl

of_cut_member : (version : DocVersion) (only : Bool) (found : Option Data) (d : Data) (look : Data → Option Data) → look d ≡ found
    → parts_read (cut_parts version (if only then due (slot (is_cut version) (read_cut version) found) else Err misread.Shape))
    ≡ ((if only then Read d else Refused (nowhere Shape)) >>= λ listed. given Shape (look listed) >>= reading_of_cut version)
of_cut_member version false found d look is = refl
of_cut_member version true None d look is = sym (ap (λ f. given Shape f >>= reading_of_cut version) is)
of_cut_member version true (Some cut) d look is = cut_reading version cut ∙ sym (ap (λ f. given Shape f >>= reading_of_cut version) is)

pub cut_in_reading : (version : DocVersion) (d : Data) → doc_version d ≡ Some version → parts_read (cut_parts version (cut_in_told version d)) ≡ reading_of_cut_in d
unfolding reading_of_cut_in
cut_in_reading version d is =
    of_cut_member version (has_only (names_of (check_members version)) d) (get (codes "cut") d) d (get (codes "cut")) refl
    ∙ sym (ap (λ v. given VersionBad v >>= cut_listed) is)
  where
    cut_listed : DocVersion → Reading CheckParts
    cut_listed known = passed Shape (has_only (names_of (check_members known))) d >>= λ listed. given Shape (get (codes "cut") listed) >>= reading_of_cut known

-- ---- the document that a walk begins with

pub document_stands : (text : List ℕ) (d : Data) → tree_of text ≡ Some d → Stands 127 (tokens text) d []
document_stands text d is = let whole = value_of_document text d is in (whole.tree, whole.read_whole, whole.viewed)

-- a refusal stays one, whatever comes next
pub refusal_stays : {A B : Type 0} (error : DocError) (reading : Reading A) (next : A → Reading B) → IsRefusal error reading → IsRefusal error (reading >>= next)
refusal_stays (errors.Refused fault) reading next is = ap (λ r. r >>= next) is
refusal_stays errors.Memory reading next is = tt
