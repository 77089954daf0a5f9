-- How far the names of the folders have come, one folder more; and the lines of these.
use Rattle.std.proofs.Common.{◌≡◌, ◌++◌, ◌<◌, ◌≤◌, ◌+◌, ◌∙◌, ℕ, List, [], ◌∷◌, length, get_or, map, take, refl, sym, ap, subst}
use Rattle.std.specs.Prelude.{All, Result, Ok, Err, IfOk}
use Rattle.std.specs.List.{flat_map}
use Rattle.std.proofs.lemmas.List.{map_push, take_all}
use Rattle.std.proofs.lemmas.List.Elements.{All-push, All-from_recursion}
use Rattle.bep_facts.specs.Places.{done_with}
use Rattle.bep_model.specs.Tables.{Folder}
use Rattle.bep_tables.specs.declared.cut.CutParts.{CutParts}
use Rattle.bep_tables.specs.declared.share.SharedFolder.{SharedFolder}
use Rattle.bep_tables.specs.Cut.{tables_of}
use Rattle.bep_origin.specs.FromCut.{HasCluster}
use Rattle.bep_converge.specs.ConvergeVerdict.{ConvergeVerdict, IsConvergeVerdict}
use Rattle.bep_converge_check.specs.declared.progress.FolderProgress.{FolderProgress}
use Rattle.bep_converge_check.specs.Progress.{Progress, IsProgress, progress_shown}
use Rattle.bep_converge_answer.specs.Lines.{progress_line, converge_report_text}
use Rattle.bep_converge_answer.specs.declared.outcome.Convergence.{Convergence}
use Rattle.bep_converge_answer.specs.Convergence.{TellsProgress, IsConvergeReport, convergence_of}
use Rattle.bep_converge_answer.specs.inner.Told.{lent_line}

abbrev folder_of : Progress → Folder
folder_of one = one.folder

abbrev folder_in : SharedFolder → Folder
folder_in shared = shared.folder

-- these are of these folders
pub record AreTold (cut : CutParts) (folders : List SharedFolder) (told : List Progress) : Type 0 where
  pub folders_told : map folder_of told ≡ map folder_in folders
  pub holds : All (IsProgress (tables_of cut)) told

module _ (cut : CutParts) where
  pub none_told : AreTold cut [] []
  none_told = record { folders_told = refl; holds = All-from_recursion (IsProgress (tables_of cut)) [] tt }

  one_more : (folders : List SharedFolder) (told : List Progress) → AreTold cut folders told → (shared : SharedFolder) (new : Progress) → new.folder ≡ shared.folder → IsProgress (tables_of cut) new → AreTold cut (folders ++ shared ∷ []) (told ++ new ∷ [])
  one_more folders told are shared new same holds = record {
    folders_told = map_push folder_of told new ∙ (λ i. are.folders_told i ++ same i ∷ []) ∙ sym (map_push folder_in folders shared);
    holds = All-push (IsProgress (tables_of cut)) told new are.holds holds;
  }

  module _ (all : List SharedFolder) where
    pub told_more : (place : ℕ) (shared : SharedFolder) → place < length all → shared ≡ get_or all place shared → (was : List FolderProgress) → AreTold cut (take place all) (map progress_shown was) →
        (new : FolderProgress) → new.folder.now ≡ shared.folder → IsProgress (tables_of cut) (progress_shown new) → (now : List FolderProgress) → now ≡ was ++ new ∷ [] → AreTold cut (take (place + 1) all) (map progress_shown now)
    told_more place shared below is was are new same holds now pushed =
        subst (AreTold cut (take (place + 1) all)) (sym (ap (map progress_shown) pushed ∙ map_push progress_shown was new))
        (subst (λ (folders : List SharedFolder). AreTold cut folders (map progress_shown was ++ progress_shown new ∷ [])) (sym (done_with all place shared below is))
        (one_more (take place all) (map progress_shown was) are shared (progress_shown new) same holds))

    pub told_whole : all ≡ cut.folders → (place : ℕ) → length all ≤ place → (told : List Progress) → AreTold cut (take place all) told → TellsProgress cut told
    told_whole is place past told are = record { folders = are.folders_told ∙ ap (map folder_in) (take_all place all past ∙ is); holds = are.holds }

-- ---- the lines

pub lines_shown : (ones : List FolderProgress) → flat_map progress_line (map progress_shown ones) ≡ flat_map lent_line ones
unfolding lent_line
lines_shown [] = refl
lines_shown (one ∷ more) = ap (λ (rest : List ℕ). lent_line one ++ rest) (lines_shown more)

-- ---- the report

pub report_told : {V E : Type 0} → (items : V → List ℕ) → (cut : CutParts) (verdict : ConvergeVerdict) (folders : List Progress) → HasCluster cut → IsConvergeVerdict (tables_of cut) verdict → TellsProgress cut folders →
    (result : Result (Convergence × V) E) → IfOk result (λ answer. answer.0 ≡ convergence_of verdict) → IfOk result (λ answer. items answer.1 ≡ converge_report_text verdict folders) →
    IfOk result (λ answer. IsConvergeReport cut answer.0 (items answer.1))
report_told items cut verdict folders from judged counted (Ok answer) outcome text = record {
  from = from;
  verdict = verdict;
  judged = judged;
  told = outcome;
  progress = folders;
  counted = counted;
  reported = text;
}
report_told items cut verdict folders from judged counted (Err error) outcome text = tt
