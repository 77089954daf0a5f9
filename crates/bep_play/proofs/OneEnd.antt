-- A scenario has one end, and one answer.
use Rattle.std.proofs.Common.{◌≡◌, ◌++◌, ◌∙◌, ℕ, List, [], ◌∷◌, map, sym, ap, subst}
use Rattle.bep_answer.specs.Certified.{IsCertificate}
use Rattle.bep_answer.specs.Laws.{CutAnswerIsUnique, ReportUnderIsUnique}
use Rattle.bep_answer.specs.declared.outcome.Certified.{Certified}
use Rattle.bep_answer.specs.declared.outcome.Outcome.{Outcome}
use Rattle.bep_cut.specs.Cut.{cut_at}
use Rattle.bep_cut.specs.Laws.{SameClusterSameCut}
use Rattle.bep_document.specs.Reading.{Reading, Read, Refused}
use Rattle.bep_machine.specs.Determined.{HaveSameSteps, RunsAreDetermined}
use Rattle.bep_machine.specs.Steps.{Event}
use Rattle.bep_peer.specs.network.Network.{Network, cluster_of}
use Rattle.bep_json.specs.declared.version.DocVersion.{DocVersion}
use Rattle.bep_scenario.specs.Scenario.{Said, scenario_of}
use Rattle.bep_tables.specs.declared.cut.CutParts.{CutParts}
use Rattle.bep_play.specs.Laws.{DocumentIsUnique, EndIsUnique, RunIsUnique}
use Rattle.bep_play.specs.Played.{AreSure, IsEnd, IsEndOf, IsRunOf, beginning_of, list_lines, refused_lines}

-- ---- the cut to which it leads

-- in steps that are the same, and in which no call fails, the same call fails
same_steps : (events others : List Event) → map (λ (event : Event). event.step) events ≡ map (λ (event : Event). event.step) others → AreSure events → AreSure others → HaveSameSteps events others
same_steps [] [] same sure also = tt
same_steps [] (other ∷ rest) same sure also = absurd (cc)
same_steps (event ∷ more) [] same sure also = absurd (cc)
same_steps (event ∷ more) (other ∷ rest) same sure also =
    let step : event.step ≡ other.step = cc in
    let later : map (λ (one : Event). one.step) more ≡ map (λ (one : Event). one.step) rest = cc in
    (step, sure.0 ∙ sym also.0, same_steps more rest later sure.1 also.1)

module _ (determined : RunsAreDetermined) (same_cut : SameClusterSameCut) where
  pub end_is_unique : EndIsUnique
  end_is_unique scenario one other told more is also =
      let begin = cluster_of (beginning_of scenario) in
      let both =
      determined begin (cluster_of one) (cluster_of other) is.leads.events also.leads.events is.begins is.leads.nodes
      (same_steps is.leads.events also.leads.events (is.leads.all ∙ sym also.leads.all) is.leads.sure also.leads.sure)
      is.leads.made also.leads.made is.leads.run also.leads.run in
      (same_cut one other is.network also.network both.0, is.leads.tells ∙ ap (refused_lines 1) both.1 ∙ sym also.leads.tells)

-- ---- what is answered of a cut

one_end : ReportUnderIsUnique → (version : DocVersion) (cut : CutParts) (told : List ℕ) (one other : Outcome) (text more : List ℕ) → IsEnd version cut told one text → IsEnd version cut told other more → (one ≡ other) × (text ≡ more)
one_end unique version cut told one other text more is also =
    let same = unique cut is.rows also.rows one other is.report also.report is.audit also.audit in
    (same.1, is.reported ∙ (λ i. (told ++ same.2 i) ++ list_lines version (same.0 i)) ∙ sym also.reported)

-- ---- what is answered of bytes

abbrev cut_of : Network → CutParts
cut_of network = cut_at network.members network.links

module _ (ends : EndIsUnique) (reports : ReportUnderIsUnique) where
  one_run : (reading : Reading Said) (one other : Outcome) (text more : List ℕ) → IsRunOf reading one text → IsRunOf reading other more → (one ≡ other) × (text ≡ more)
  one_run (Read scenario) one other text more is also =
      let same = ends scenario is.last also.last is.told also.told is.leads also.leads in
      one_end reports scenario.version (cut_of is.last) is.told one other text more is.end
      (subst (λ (cut : CutParts). IsEnd scenario.version cut is.told other more) (sym same.0) (subst (λ (told : List ℕ). IsEnd scenario.version (cut_of also.last) told other more) (sym same.1) also.end))
  one_run (Refused fault) one other text more is also = (is.0 ∙ sym also.0, is.1 ∙ sym also.1)

  pub run_is_unique : RunIsUnique
  run_is_unique bytes = one_run (scenario_of bytes)

module _ (ends : EndIsUnique) (certificates : CutAnswerIsUnique) where
  one_document : (reading : Reading Said) (one other : Certified) (text more : List ℕ) → IsEndOf reading one text → IsEndOf reading other more → (one ≡ other) × (text ≡ more)
  one_document (Read scenario) one other text more is also =
      let same = ends scenario is.last also.last is.told also.told is.leads also.leads in
      certificates scenario.version (cut_of is.last) one other text more is.certificate (subst (λ (cut : CutParts). IsCertificate scenario.version cut other more) (sym same.0) also.certificate)
  one_document (Refused fault) one other text more is also = (is.0 ∙ sym also.0, is.1 ∙ sym also.1)

  pub document_is_unique : DocumentIsUnique
  document_is_unique bytes = one_document (scenario_of bytes)
