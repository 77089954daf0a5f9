-- What is written of a cut, and of a cut and rows, is read as these.
use Rattle.std.proofs.Common.{◌≡◌, ◌≤◌, Bool, true, if◌then◌else◌, List, [], ◌∷◌, map, Option, Some, None, refl, ap, ◌∙◌}
use Rattle.std.specs.List.{AllByRecursion}
use Rattle.bep_json.specs.Lists.{is_list, read_list}
use Rattle.bep_json.specs.Says.{Says, both_are, then_read, list_says}
use Rattle.bep_json.specs.Written.{list_of}
use Rattle.bep_record.specs.Entry.{IsWellFormed}
use Rattle.bep_index.specs.declared.limits.TheConstants.{MAX_SEQUENCE}
use Rattle.bep_model.specs.declared.row.Row.{Row}
use Rattle.bep_document.specs.declared.fault.Fault.{Fault}
use Rattle.bep_document.specs.declared.fault.Fault.TheVariants.{VersionBad, Shape, Range}
use Rattle.bep_document.specs.declared.parts.FolderParts.{FolderParts}
use Rattle.bep_document.specs.declared.parts.RowParts.{RowParts}
use Rattle.bep_document.specs.declared.parts.CheckParts.{CheckParts}
use Rattle.bep_document.specs.Fault.{nowhere}
use Rattle.bep_document.specs.Faultless.{IsFaultless, FaultlessHasNoFault, FaultlessHasFewDevices}
use Rattle.bep_document.specs.Reading.{Reading, Read, Refused, ◌>>=◌, given, passed, unless, reading_of_tree, reading_of_cut}
use Rattle.bep_document.specs.read.Checks.{is_cut, if_few_devices, read_cut, doc_version, is_check, read_check_parts}
use Rattle.bep_document.specs.read.Devices.{has_few_devices}
use Rattle.bep_document.specs.read.Folders.{is_row, read_row}
use Rattle.bep_tables.specs.declared.cut.CutParts.{CutParts}
use Rattle.bep_tables.specs.Cut.{IsCut}
use Rattle.bep_cut_document.specs.inner.Sound.{IsFolderSound, IsLinkSound}
use Rattle.bep_cut_document.specs.Told.{AreRowsInRange}
use Rattle.bep_cut_document.specs.inner.Told.{folder_parts, link_parts, row_parts, parts_of, IsFolderTold, IsLinkTold, IsRowTold, IsCutTold}
use Rattle.bep_cut_document.specs.Trees.{cut_tree, row_tree, check_tree}
use Rattle.bep_cut_document.specs.Written.{row_written, cut_written, cut_of_tree, check_of_tree}
use Rattle.bep_cut_document.proofs.RangeTold.{IsReadAgain, cut_says}
use Rattle.bep_cut_document.proofs.ToldFacts.{each_told}
use Rattle.bep_cut_document.proofs.back.CutListed.{cut_listed}
use Rattle.bep_cut_document.proofs.back.Parts.{all_parts}
use Rattle.bep_json.specs.declared.version.DocVersion.{DocVersion}
use Rattle.bep_json.specs.declared.version.DocVersion.TheVariants.{One, Two}
use Rattle.bep_json.specs.Version.{most_file_bytes}
use Rattle.bep_cut_document.specs.Room.{IsCutShort, AreRowsShort}
use Rattle.bep_cut_document.proofs.ShortFacts.{cut_short}
use Rattle.bep_cut_document.proofs.back.SameCut.{cut_again}

-- ---- the steps of a reading
passes : {A B : Type 0} (fault : Fault) (test : A → Bool) (x : A) (next : A → Reading B) → test x ≡ true → (passed fault test x >>= next) ≡ next x
passes fault test x next e = ap (λ b. (if b then Read x else Refused (nowhere fault)) >>= next) e

gives : {A B : Type 0} (fault : Fault) (o : Option A) (x : A) (next : A → Reading B) → o ≡ Some x → (given fault o >>= next) ≡ next x
gives fault o x next e = ap (λ p. given fault p >>= next) e

-- ---- the lists of a cut
few_read : (folders : List FolderParts) → has_few_devices folders ≡ true → if_few_devices folders ≡ Some folders
few_read folders few = ap (λ b. if b then Some folders else None) few

lists_say : (version : DocVersion) (cut : CutParts) → IsReadAgain version cut → has_few_devices (map folder_parts cut.folders) ≡ true → Says (is_cut version) (read_cut version) (map folder_parts cut.folders, map link_parts cut.links) (cut_tree cut)
unfolding is_cut read_cut cut_tree
lists_say version cut again few = (
  both_are refl (both_are again.folders.0 again.links.0),
  then_read _ (then_read _ again.folders.1 (few_read (map folder_parts cut.folders) few)) (then_read _ again.links.1 refl),
)

pub cut_is_told : FaultlessHasFewDevices → (cut : CutParts) → IsCut cut → AllByRecursion IsFolderTold cut.folders → AllByRecursion IsLinkTold cut.links → AllByRecursion IsFolderSound cut.folders → AllByRecursion IsLinkSound cut.links → IsCutTold cut
cut_is_told few cut is folders_told links_told folders_sound links_sound =
    record {
      lists = λ version short. lists_say version cut (cut_says version cut is short folders_told links_told) (few (parts_of version cut []) (cut_listed version cut is folders_sound links_sound));
      short = cut_short cut folders_sound links_sound;
      faultless = λ version. cut_listed version cut is folders_sound links_sound;
      same = cut_again cut is;
    }

-- ---- a cut
pub cut_read : FaultlessHasNoFault → (version : DocVersion) (cut : CutParts) → IsCutTold cut → IsCutShort version cut → cut_of_tree version (cut_tree cut) ≡ Read cut
unfolding reading_of_cut
cut_read no_fault version cut told short =
    let lists = told.lists version short in
    ap (λ reading. reading >>= made)
    (passes Shape (is_cut version) (cut_tree cut) _ lists.0
    ∙ gives Range (read_cut version (cut_tree cut)) _ _ lists.1
    ∙ ap (λ fault. unless fault (parts_of version cut [])) (no_fault (parts_of version cut []) (told.faultless version)))
    ∙ ap Read told.same
  where
    made : CheckParts → Reading CutParts
    made parts = Read (cut_written parts.folders parts.links)

-- ---- a cut and rows
rows_say : (version : DocVersion) (rows : List Row) → AllByRecursion IsRowTold rows → AreRowsShort version rows → AreRowsInRange rows → Says (is_list (is_row version)) (read_list (read_row version)) (map row_parts rows) (list_of (map row_tree rows))
rows_say version rows told short range =
    list_says (is_row version) (read_row version) row_parts row_tree rows
    (each_told (λ (v : DocVersion) (row : Row). row.entry.size ≤ most_file_bytes v) (λ (row : Row). row.entry.sequence ≤ MAX_SEQUENCE) (λ (v : DocVersion) (row : Row). Says (is_row v) (read_row v) (row_parts row) (row_tree row)) version rows told short range)

check_says : (version : DocVersion) (cut : CutParts) (rows : List Row) → IsCutTold cut → IsCutShort version cut → Says (is_list (is_row version)) (read_list (read_row version)) (map row_parts rows) (list_of (map row_tree rows)) → Says (is_check version) (read_check_parts version) (parts_of version cut rows) (check_tree version cut rows)
unfolding is_check read_check_parts check_tree
check_says version cut rows told short said =
    let lists = told.lists version short in (
      both_are refl (both_are refl (both_are lists.0 said.0)),
      then_read _ lists.1 (then_read _ said.1 refl),
    )

with_rows : (version : DocVersion) (cut : CutParts) (rows : List Row) → IsCutTold cut → AllByRecursion (λ (row : Row). IsWellFormed row.entry) rows → IsFaultless (parts_of version cut rows)
with_rows version cut rows told sound =
    let free = told.faultless version in
    record {
      few_folders = free.few_folders;
      few_devices = free.few_devices;
      different = free.different;
      each_folder = free.each_folder;
      different_links = free.different_links;
      each_link = free.each_link;
      rows = all_parts (λ (row : RowParts). IsWellFormed row.entry) row_parts rows sound;
    }

rows_again : (rows : List Row) → map row_written (map row_parts rows) ≡ rows
rows_again [] = refl
rows_again (row ∷ more) = ap (λ l. row ∷ l) (rows_again more)

has_its_version : (version : DocVersion) (cut : CutParts) (rows : List Row) → doc_version (check_tree version cut rows) ≡ Some version
unfolding check_tree
has_its_version One cut rows = refl
has_its_version Two cut rows = refl

pub check_read : FaultlessHasNoFault → (version : DocVersion) (cut : CutParts) (rows : List Row) → IsCutTold cut → IsCutShort version cut → AllByRecursion IsRowTold rows → AllByRecursion (λ (row : Row). IsWellFormed row.entry) rows → AreRowsShort version rows → AreRowsInRange rows → check_of_tree (check_tree version cut rows) ≡ Read (cut, rows)
unfolding reading_of_tree
check_read no_fault version cut rows told short rows_told rows_sound rows_short range =
    let said = check_says version cut rows told short (rows_say version rows rows_told rows_short range) in
    ap (λ reading. reading >>= made)
    (gives VersionBad (doc_version (check_tree version cut rows)) version _ (has_its_version version cut rows)
    ∙ passes Shape (is_check version) (check_tree version cut rows) _ said.0
    ∙ gives Range (read_check_parts version (check_tree version cut rows)) _ _ said.1
    ∙ ap (λ fault. unless fault (parts_of version cut rows)) (no_fault (parts_of version cut rows) (with_rows version cut rows told rows_sound)))
    ∙ λ i. Read (told.same i, rows_again rows i)
  where
    made : CheckParts → Reading (CutParts × List Row)
    made parts = Read (cut_written parts.folders parts.links, map row_written parts.certificate)
