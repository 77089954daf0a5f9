-- The files of a document's cut that is read are as short as those of its version.
use Rattle.std.proofs.Common.{◌≡◌, ℕ, List, codes, subst}
use Rattle.serde_json.specs.Data.{Data}
use Rattle.serde_json.specs.Find.{get}
use Rattle.bep_json.specs.declared.version.DocVersion.{DocVersion}
use Rattle.bep_json.specs.Tree.{names_of}
use Rattle.bep_tree.specs.Names.{has_only}
use Rattle.bep_document.specs.Short.{IsCutShort}
use Rattle.bep_document.specs.Reading.{Read, first_fault, without_rows, reading_of_cut, reading_of_cut_in, reading_of_cut_document}
use Rattle.bep_document.specs.declared.fault.Fault.TheVariants.{VersionBad, Shape, Range}
use Rattle.bep_document.specs.declared.parts.CheckParts.{CheckParts}
use Rattle.bep_document.specs.read.Checks.{is_cut, read_cut, doc_version, check_members}
use Rattle.bep_document.proofs.Steps.{passed_and, given_and, no_fault_and, of_bytes_and}
use Rattle.bep_document.proofs.read.ShortFacts.{cut_short}

abbrev ArePartsShort : CheckParts → Type 0
ArePartsShort parts = IsCutShort parts.version parts.folders parts.links

tree_short : (version : DocVersion) (tree : Data) (parts : CheckParts) → reading_of_cut version tree ≡ Read parts → ArePartsShort parts
unfolding reading_of_cut
tree_short version tree parts e =
    let shaped = passed_and Shape (is_cut version) tree _ e in
    let found = given_and Range (read_cut version tree) _ shaped in
    let clean = no_fault_and (first_fault (without_rows version found.0)) found.2 in
    subst ArePartsShort clean.1 (cut_short version tree found.0 found.1)

cut_in_short : (tree : Data) (parts : CheckParts) → reading_of_cut_in tree ≡ Read parts → ArePartsShort parts
unfolding reading_of_cut_in
cut_in_short tree parts e =
    let known = given_and VersionBad (doc_version tree) _ e in
    let listed = passed_and Shape (has_only (names_of (check_members known.0))) tree _ known.2 in
    let cut = given_and Shape (get (codes "cut") tree) _ listed in
    tree_short known.0 cut.0 parts cut.2

pub cut_document_short : (bytes : List ℕ) (parts : CheckParts) → reading_of_cut_document bytes ≡ Read parts → ArePartsShort parts
unfolding reading_of_cut_document
cut_document_short bytes parts e = let tree = of_bytes_and reading_of_cut_in bytes e in cut_in_short tree.0 parts tree.1
