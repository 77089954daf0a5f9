-- What the program answers to a scenario whose cluster goes on in threads (this project's profile).
use Rattle.std.specs.Prelude.{◌≡◌, ◌++◌, ℕ, List, [], Option}
use Rattle.bep_answer.specs.Answer.{fault_text}
use Rattle.bep_answer.specs.Certified.{IsCertificate}
use Rattle.bep_answer.specs.declared.outcome.Certified.{Certified}
use Rattle.bep_answer.specs.declared.outcome.Certified.TheVariants as certificates
use Rattle.bep_answer.specs.declared.outcome.Outcome.{Outcome}
use Rattle.bep_answer.specs.declared.outcome.Outcome.TheVariants as outcomes
use Rattle.bep_cut.specs.Cut.{cut_at}
use Rattle.bep_cut.specs.Says.{Says}
use Rattle.bep_document.specs.Reading.{Reading, Read, Refused}
use Rattle.bep_fit.specs.Fit.{IsRunVerdict}
use Rattle.bep_fit.specs.Fit as logs
use Rattle.bep_fit.specs.Replayed.{AreQuietLogs, AreResetOf}
use Rattle.bep_fit.specs.declared.verdict.RunVerdict.{RunVerdict}
use Rattle.bep_fit.specs.declared.verdict.RunVerdict.TheVariants.{Fits, Misfit}
use Rattle.bep_machine.specs.Gapless.{IsGapless, IsOfNoLaterIndex}
use Rattle.bep_machine.specs.Laws.{StaysSettled}
use Rattle.bep_machine.specs.Laws as laws
use Rattle.bep_model.specs.Settled.{IsSettled}
use Rattle.bep_model.specs.Stays.{Stays}
use Rattle.bep_model.specs.declared.row.Row.{Row}
use Rattle.bep_peer.specs.network.Network.{Network, cluster_of}
use Rattle.bep_play.specs.Played.{EndsAt, IsEnd}
use Rattle.bep_report.specs.Input.{IsRead}
use Rattle.bep_run_cut.specs.OneRun.{IsRunOf}
use Rattle.bep_run_cut.specs.RunCut.{AreTheSame, IsCutOf, IsRunCut, RunState}
use Rattle.bep_scenario.specs.Scenario.{Said, scenario_of}
use Rattle.bep_tables.specs.Cut.{tables_of}
use Rattle.bep_tables.specs.declared.cut.CutParts.{CutParts}
use Rattle.bep_live.specs.Lines.{run_line}

-- The scenario's steps were made, and this is told of them. The run's logs begin at the cluster to which they lead: at its
-- devices, by their tables and sessions, and at its links. No event in them is a local step, and none a reset. The logs fit.
-- Where they end, no view has a gap, and none is of an index that is still to come.
pub record LeadsOn (scenario : Said) (run : RunState) (told : List ℕ) : Type 0 where
  pub last : Network
  pub leads : EndsAt scenario last told
  pub begins : AreTheSame run.bases last.members last.links
  pub from : cluster_of run.bases ≡ cluster_of last
  pub quiet : AreQuietLogs run.logs
  pub no_reset : AreResetOf run.logs []
  pub fit : (count : ℕ) × logs.Fits run.logs count
  pub gapless : IsGapless (cluster_of run.present)
  pub earlier : IsOfNoLaterIndex (cluster_of run.present)

-- the cut of the devices and links of a run cut as they are
abbrev pub cut_in : RunState → CutParts
cut_in run = cut_at run.present.members run.present.links

-- Let the cut of the cluster as it was be settled for some rows. Then each store of the cut of the cluster as it is holds byte for
-- byte what it held. Each row's name has its certified content, in stores and in own records; one of these is missing only where
-- that content is Deleted.
abbrev pub StoresStay : RunState → Type 0
StoresStay run = (base cut : CutParts) → IsCutOf run.bases base → IsCutOf run.present cut → (rows : List Row) → IsSettled (tables_of base) rows → Stays (tables_of base) rows [] (tables_of cut)

-- A run cut, whose cut says what its devices and links as they are do, and the verdict on its logs: they fit. So they are one run
-- of so many events, which leads from the bases to that cut; and if the bases' cut is settled, every store holds what it held.
pub record IsJudged (run : RunState) (verdict : RunVerdict) : Type 0 where
  pub a_run_cut : IsRunCut run
  pub says : Says (cluster_of run.present) (cut_in run)
  pub judged : IsRunVerdict run.logs verdict
  pub fits : (count : ℕ) × (verdict ≡ Fits count)
  pub one_run : (count : ℕ) → verdict ≡ Fits count → IsRunOf run count
  pub stays : (count : ℕ) → verdict ≡ Fits count → StoresStay run

-- Where the logs don't fit, the cut isn't known to be of one run, so it isn't answered that it is settled.
abbrev pub outcome_under : RunVerdict → Outcome → Outcome
outcome_under (Fits count) found = found
outcome_under (Misfit object ticket) found = outcomes.NotSettled

-- The steps are made. There is a run cut whose logs begin at the cluster to which they lead, and its cut is reported as the cut
-- of a scenario's end is. The last line is the verdict on its logs. What is answered is what was found, if they fit.
pub record IsLived (scenario : Said) (outcome : Outcome) (text : List ℕ) : Type 0 where
  pub told : List ℕ
  pub run : RunState
  pub leads : LeadsOn scenario run told
  pub verdict : RunVerdict
  pub judged : IsJudged run verdict
  pub report : List ℕ
  pub found : Outcome
  pub end : IsEnd scenario.version (cut_in run) told found report
  pub ended : outcome ≡ outcome_under verdict found
  pub reported : text ≡ report ++ run_line verdict

-- the outcome and the text for what a document says: that, or the fault for which it is refused
abbrev pub IsLiveOf : Reading Said → Outcome → List ℕ → Type 0
IsLiveOf (Read scenario) outcome text = IsLived scenario outcome text
IsLiveOf (Refused fault) outcome text = (outcome ≡ outcomes.Refused) × (text ≡ fault_text fault)

-- the same of the bytes of a document
abbrev pub IsLiveOfBytes : List ℕ → Outcome → List ℕ → Type 0
IsLiveOfBytes bytes outcome text = IsLiveOf (scenario_of bytes) outcome text

-- Where the logs don't fit, the cut isn't known to be of one run. So it isn't answered for, as where there is no list for it.
abbrev pub certified_under : RunVerdict → Certified → Certified
certified_under (Fits count) found = found
certified_under (Misfit object ticket) found = certificates.NoWinner

-- The steps are made. There is a run cut whose logs begin at the cluster to which they lead, and its cut is written as where its
-- certificate is asked for: as the document of that cut, of the scenario's version, with the list under which it is audited. What
-- is answered is what was found, if the logs fit.
pub record IsLivedTo (scenario : Said) (outcome : Certified) (text : List ℕ) : Type 0 where
  pub told : List ℕ
  pub run : RunState
  pub leads : LeadsOn scenario run told
  pub verdict : RunVerdict
  pub judged : IsJudged run verdict
  pub found : Certified
  pub certificate : IsCertificate scenario.version (cut_in run) found text
  pub ended : outcome ≡ certified_under verdict found

-- the outcome and the text for what a document says: that, or the fault for which it is refused
abbrev pub IsLiveEndOf : Reading Said → Certified → List ℕ → Type 0
IsLiveEndOf (Read scenario) outcome text = IsLivedTo scenario outcome text
IsLiveEndOf (Refused fault) outcome text = (outcome ≡ certificates.Refused) × (text ≡ fault_text fault)

-- the same of the bytes of a document
abbrev pub IsLiveEndOfBytes : List ℕ → Certified → List ℕ → Type 0
IsLiveEndOfBytes bytes outcome text = IsLiveEndOf (scenario_of bytes) outcome text

-- ---- a settled end

-- The scenario's steps are made. There is a run cut whose logs begin at the cluster to which they lead and fit, and its cut is
-- settled under its winners: so that stays, after every list of further steps without local edits.
pub record LivesSettled (reading : Reading Said) : Type 0 where
  pub scenario : Said
  pub says : reading ≡ Read scenario
  pub told : List ℕ
  pub run : RunState
  pub leads : LeadsOn scenario run told
  pub verdict : RunVerdict
  pub judged : IsJudged run verdict
  pub count : ℕ
  pub fits : verdict ≡ Fits count
  pub rows : List Row
  pub settled : IsSettled (tables_of (cut_in run)) rows
  pub stays_put : laws.StaysPut (tables_of (cut_in run)) rows
  pub stays_settled : StaysSettled (tables_of (cut_in run)) rows

-- a document was read, and threads ran its scenario's cluster to such a cut
pub record EndsLived (unread left : Option (List ℕ)) : Type 0 where
  pub bytes : List ℕ
  pub read : IsRead unread left bytes
  pub end : LivesSettled (scenario_of bytes)
