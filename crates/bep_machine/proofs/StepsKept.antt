-- No step breaks what holds of every cluster.
use Rattle.std.proofs.Common.{ℕ, Option, sym, subst, inl, inr}
use Rattle.bep_machine.specs.declared.step.Step.{Step}
use Rattle.bep_machine.specs.declared.step.Step.TheVariants.{Edit, Remove, Scan, Override, Revert, Connect, Lose, Begin, Deliver, Announce, StartPull, Ask, Finish, Restart, Reset}
use Rattle.bep_machine.specs.Answer.{Answer}
use Rattle.bep_machine.specs.Local.{EditRow, RemoveRow, ScanRow, OverrideRow, RevertRow}
use Rattle.bep_machine.specs.Pull.{StartPullRow, FinishRow}
use Rattle.bep_machine.specs.Exchange.{BeginRow, DeliverRow, AnnounceRow, AskRow}
use Rattle.bep_machine.specs.Cluster.{Cluster}
use Rattle.bep_machine.specs.Steps.{IsThere, StepRow}
use Rattle.bep_machine.specs.Sound.{IsSound}
use Rattle.bep_machine.specs.Laws.{IsSoundStep, StepsKeepSound}
use Rattle.bep_machine.proofs.LowerLaws.{LowerLaws}
use Rattle.bep_machine.proofs.SoundLocal.{edit_is_sound, remove_is_sound, scan_is_sound, override_is_sound, revert_is_sound}
use Rattle.bep_machine.proofs.SoundPull.{start_pull_is_sound, finish_is_sound}
use Rattle.bep_machine.proofs.BeginKept.{begin_keeps, ask_keeps}
use Rattle.bep_machine.proofs.AnnounceKept.{announce_keeps}
use Rattle.bep_machine.proofs.DeliverKept.{deliver_keeps}
use Rattle.bep_machine.proofs.ClusterKept.{linked_if_not_apart}
use Rattle.bep_machine.proofs.PlacesKept.{replica_row_keeps, link_row_keeps, connecting_keeps, losing_keeps, restart_keeps, reset_keeps}

module _ (laws : LowerLaws) where
  row_keeps : (step : Step) (failed : Option ℕ) (old new : Cluster) (answer : Answer) → IsSoundStep step → IsSound old → ¬ (¬ IsThere old.config step) → StepRow step failed old new answer → IsSound new
  row_keeps (Edit device folder name node) failed old new answer user sound there row = replica_row_keeps device folder (EditRow name node failed) (λ before after reply is made. edit_is_sound device name node failed before after reply user is made) old new answer sound row
  row_keeps (Remove device folder name) failed old new answer user sound there row = replica_row_keeps device folder (RemoveRow name failed) (remove_is_sound device name failed) old new answer sound row
  row_keeps (Scan device folder name) failed old new answer user sound there row = replica_row_keeps device folder (ScanRow device name failed) (scan_is_sound laws device name failed) old new answer sound row
  row_keeps (Override device folder name) failed old new answer user sound there row = replica_row_keeps device folder (OverrideRow device name) (override_is_sound laws device name) old new answer sound row
  row_keeps (Revert device folder name) failed old new answer user sound there row = replica_row_keeps device folder (RevertRow device name failed) (revert_is_sound laws device name failed) old new answer sound row
  row_keeps (Connect one other) failed old new answer user sound there row = connecting_keeps one other old new answer sound row
  row_keeps (Lose one other) failed old new answer user sound there row = losing_keeps one other old new answer sound row
  row_keeps (Begin device other) failed old new answer user sound there row =
      link_row_keeps device other (BeginRow other) old new answer (begin_keeps old.config device other) sound (linked_if_not_apart old.config device other there) row
  row_keeps (Deliver device other) failed old new answer user sound there row =
      link_row_keeps device other (DeliverRow other failed) old new answer (deliver_keeps laws old.config device other failed) sound (linked_if_not_apart old.config device other there) row
  row_keeps (Announce device other folder) failed old new answer user sound there row =
      link_row_keeps device other (AnnounceRow other folder) old new answer (announce_keeps old.config device other folder) sound
      (linked_if_not_apart old.config device other (λ apart. there (λ all. apart all.0))) row
  row_keeps (StartPull device folder name) failed old new answer user sound there row = replica_row_keeps device folder (StartPullRow device name) (start_pull_is_sound device name) old new answer sound row
  row_keeps (Ask device other folder name) failed old new answer user sound there row =
      link_row_keeps device other (AskRow other folder name) old new answer (ask_keeps old.config device other folder name) sound
      (linked_if_not_apart old.config device other (λ apart. there (λ all. apart all.0))) row
  row_keeps (Finish device folder name) failed old new answer user sound there row = replica_row_keeps device folder (FinishRow device name failed) (finish_is_sound laws device name failed) old new answer sound row
  row_keeps (Restart device) failed old new answer user sound there row = restart_keeps device old new answer sound row
  row_keeps (Reset device id) failed old new answer user sound there row = reset_keeps device id old new answer sound row

  pub steps_keep_sound_lem : StepsKeepSound
  steps_keep_sound_lem step failed old new answer user sound (inl (grows, same)) = subst (λ c. IsSound c) (sym same.0) sound
  steps_keep_sound_lem step failed old new answer user sound (inr (inl (missing, same))) = subst (λ c. IsSound c) (sym same.0) sound
  steps_keep_sound_lem step failed old new answer user sound (inr (inr (there, row))) = row_keeps step failed old new answer user sound there row
