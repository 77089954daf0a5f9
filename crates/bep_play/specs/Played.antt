-- What the program answers to a scenario: the steps that are refused, then the report on the cut to which they lead, and
-- the certificate of its winners (this project's profile).
use Rattle.std.specs.Prelude.{◌≡◌, ◌++◌, suc, ℕ, ⊤, List, [], ◌∷◌, map, codes, Option, Some, None, Result, Ok, Err}
use Rattle.bep_core.specs.Begin.{begun}
use Rattle.bep_peer.specs.network.Network.{Network, IsNetwork, cluster_of}
use Rattle.bep_core.specs.Why.{name_of_refusal}
use Rattle.bep_core.specs.declared.why.Why.{Why}
use Rattle.bep_core.specs.declared.why.Why.TheVariants as whys
use Rattle.bep_cut.specs.Cut.{cut_at}
use Rattle.bep_cut.specs.Says.{Says}
use Rattle.bep_document.specs.Reading.{Reading, Read, Refused}
use Rattle.bep_machine.specs.Answer.{Answer, Done, OutOfMemory, Refused as Refuses, number_of as number_of_refusal}
use Rattle.bep_machine.specs.Cluster.{Cluster}
use Rattle.bep_machine.specs.Determined.{HadMemory}
use Rattle.bep_machine.specs.Gapless.{IsGapless, IsOfNoLaterIndex}
use Rattle.bep_machine.specs.Laws.{AreSound, StaysPut, StaysSettled}
use Rattle.bep_machine.specs.Sound.{IsSound}
use Rattle.bep_machine.specs.Steps.{Event, IsRun}
use Rattle.bep_machine.specs.declared.moved.Moved.{Moved}
use Rattle.bep_machine.specs.declared.step.Step.{Step}
use Rattle.bep_model.specs.declared.row.Row.{Row}
use Rattle.bep_model.specs.Settled.{IsSettled}
use Rattle.bep_report.specs.Certificate.{certificate_lines, certificate_lines_2}
use Rattle.bep_json.specs.declared.version.DocVersion.{DocVersion}
use Rattle.bep_json.specs.declared.version.DocVersion.TheVariants.{One, Two}
use Rattle.bep_lines.specs.Lines.{step_line}
use Rattle.bep_report.specs.Input.{IsRead}
use Rattle.bep_scenario.specs.Scenario.{Said, scenario_of}
use Rattle.bep_tables.specs.declared.cut.CutParts.{CutParts}
use Rattle.bep_tables.specs.Cut.{tables_of}
use Rattle.bep_answer.specs.Answer.{fault_text}
use Rattle.bep_answer.specs.Certified.{IsCertificate}
use Rattle.bep_answer.specs.UnderWinners.{IsReportUnder}
use Rattle.bep_answer.specs.declared.outcome.Certified.{Certified}
use Rattle.bep_answer.specs.declared.outcome.Certified.TheVariants as certificates
use Rattle.bep_answer.specs.declared.outcome.Outcome.{Outcome}
use Rattle.bep_answer.specs.declared.outcome.Outcome.TheVariants as outcomes

-- ---- steps that are made, and what is told of them

-- the line of a step that is refused; one that is made has none
abbrev pub answer_line : ℕ → Answer → List ℕ
answer_line place (Done moved) = []
answer_line place (Refuses refusal) = step_line place (number_of_refusal refusal) (name_of_refusal refusal)
answer_line place OutOfMemory = []

-- the lines of those that are refused, counted from this number on
abbrev pub refused_lines : ℕ → List Event → List ℕ
refused_lines place [] = []
refused_lines place (event ∷ more) = answer_line place event.answer ++ refused_lines (suc place) more

-- no call of a store failed in any
abbrev pub AreSure : List Event → Type 0
AreSure [] = ⊤
AreSure (event ∷ more) = (event.failed ≡ None) × AreSure more

-- The steps, made one after another as the definitions have each, lead from the one cluster to the other, and this is
-- told of them. What edits put are nodes. The stores are in memory, so that none of their calls fails.
pub record Leads (old : Cluster) (steps : List Step) (new : Cluster) (told : List ℕ) : Type 0 where
  pub events : List Event
  pub all : map (λ (event : Event). event.step) events ≡ steps
  pub run : IsRun old events new
  pub nodes : AreSound events
  pub made : HadMemory events
  pub sure : AreSure events
  pub tells : told ≡ refused_lines 1 events

-- the cluster with which a scenario begins; its stores are in memory, empty, and don't fail
abbrev pub beginning_of : Said → Network
beginning_of scenario = begun (λ store. store) (λ _. 0) scenario.config

-- The scenario's steps lead from where it begins, a sound cluster, to these devices and links, which are a sound cluster
-- too, and this is told of them. Their cut says what that very cluster does. No view in it has a gap, and none is of an
-- index that is still to come.
pub record EndsAt (scenario : Said) (last : Network) (told : List ℕ) : Type 0 where
  pub begins : IsSound (cluster_of (beginning_of scenario))
  pub leads : Leads (cluster_of (beginning_of scenario)) scenario.steps (cluster_of last) told
  pub network : IsNetwork last
  pub sound : IsSound (cluster_of last)
  pub says : Says (cluster_of last) (cut_at last.members last.links)
  pub gapless : IsGapless (cluster_of last)
  pub earlier : IsOfNoLaterIndex (cluster_of last)

-- what the answer of a step adds to what is told
abbrev pub IsTold : ℕ → Result Moved Why → List ℕ → List ℕ → Type 0
IsTold place (Ok moved) old new = new ≡ old
IsTold place (Err (whys.Refused refusal)) old new = new ≡ old ++ step_line place (number_of_refusal refusal) (name_of_refusal refusal)
IsTold place (Err whys.ConfigBad) old new = new ≡ old ++ step_line place 164 (codes "ConfigBad")
IsTold place (Err whys.Memory) old new = ⊥

-- ---- the end

-- the lines of a certificate after the run of a scenario of this version: those of version 2 have the block sizes
abbrev pub rows_told : DocVersion → List Row → List ℕ
rows_told One rows = certificate_lines rows
rows_told Two rows = certificate_lines_2 rows

-- the lines of the list of winners, if there is one
abbrev pub list_lines : DocVersion → Option (List Row) → List ℕ
list_lines version None = []
list_lines version (Some rows) = rows_told version rows

-- the cut is reported under the list of its winners, if it has one, and that list is told; before these stands what was told
pub record IsEnd (version : DocVersion) (cut : CutParts) (told : List ℕ) (outcome : Outcome) (text : List ℕ) : Type 0 where
  pub rows : Option (List Row)
  pub report : List ℕ
  pub audit : IsReportUnder cut rows outcome report
  pub reported : text ≡ (told ++ report) ++ list_lines version rows

-- the steps are made, and the cut to which they lead is reported
pub record IsPlayed (scenario : Said) (outcome : Outcome) (text : List ℕ) : Type 0 where
  pub last : Network
  pub told : List ℕ
  pub leads : EndsAt scenario last told
  pub end : IsEnd scenario.version (cut_at last.members last.links) told outcome text

-- the outcome and the text for what a document says: its scenario's run, or the fault for which it is refused
abbrev pub IsRunOf : Reading Said → Outcome → List ℕ → Type 0
IsRunOf (Read scenario) outcome text = IsPlayed scenario outcome text
IsRunOf (Refused fault) outcome text = (outcome ≡ outcomes.Refused) × (text ≡ fault_text fault)

-- the same of the bytes of a document
abbrev pub IsRunOfBytes : List ℕ → Outcome → List ℕ → Type 0
IsRunOfBytes bytes outcome text = IsRunOf (scenario_of bytes) outcome text

-- the steps are made, and the cut to which they lead is written as where its certificate is asked for: as the document of
-- that cut, of the scenario's version, with the list under which it is audited
pub record IsPlayedTo (scenario : Said) (outcome : Certified) (text : List ℕ) : Type 0 where
  pub last : Network
  pub told : List ℕ
  pub leads : EndsAt scenario last told
  pub certificate : IsCertificate scenario.version (cut_at last.members last.links) outcome text

-- the outcome and the text for what a document says: where its scenario's run ends, or the fault for which it is refused
abbrev pub IsEndOf : Reading Said → Certified → List ℕ → Type 0
IsEndOf (Read scenario) outcome text = IsPlayedTo scenario outcome text
IsEndOf (Refused fault) outcome text = (outcome ≡ certificates.Refused) × (text ≡ fault_text fault)

-- the same of the bytes of a document
abbrev pub IsEndOfBytes : List ℕ → Certified → List ℕ → Type 0
IsEndOfBytes bytes outcome text = IsEndOf (scenario_of bytes) outcome text

-- ---- a settled end

-- the scenario leads to a cut that is settled under its winners: so it stays, after every list of further steps without
-- local edits
pub record LeadsToSettled (reading : Reading Said) : Type 0 where
  pub scenario : Said
  pub says : reading ≡ Read scenario
  pub last : Network
  pub told : List ℕ
  pub leads : EndsAt scenario last told
  pub rows : List Row
  pub settled : IsSettled (tables_of (cut_at last.members last.links)) rows
  pub stays_put : StaysPut (tables_of (cut_at last.members last.links)) rows
  pub stays_settled : StaysSettled (tables_of (cut_at last.members last.links)) rows

-- a document was read, and its scenario leads there
pub record EndsSettled (unread left : Option (List ℕ)) : Type 0 where
  pub bytes : List ℕ
  pub read : IsRead unread left bytes
  pub end : LeadsToSettled (scenario_of bytes)
