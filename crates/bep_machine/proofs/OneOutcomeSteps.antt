-- A step of a sound cluster has one outcome.
use Rattle.std.proofs.Common.{◌≡◌, ◌∙◌, ℕ, Option, Some, refl, sym, ap, subst, inl, inr, ⊎_elim}
use Rattle.std.proofs.lemmas.Option.{same_Some}
use Rattle.std.specs.FinMap.{get}
use Rattle.bep_record.specs.Laws.{MergeIsUnique, BumpIsUnique}
use Rattle.bep_model.specs.Tables.{Device, Folder}
use Rattle.bep_machine.specs.declared.step.Step.{Step}
use Rattle.bep_machine.specs.declared.step.Step.TheVariants.{Edit, Remove, Scan, Override, Revert, Connect, Lose, Begin, Deliver, Announce, StartPull, Ask, Finish, Restart, Reset}
use Rattle.bep_machine.specs.Answer.{Row}
use Rattle.bep_machine.specs.Replica.{Replica}
use Rattle.bep_machine.specs.Local.{EditRow, RemoveRow, ScanRow, OverrideRow, RevertRow}
use Rattle.bep_machine.specs.Pull.{StartPullRow, FinishRow}
use Rattle.bep_machine.specs.Link.{Link, Sight, end_of, sight_of, after_deed}
use Rattle.bep_machine.specs.Peer.{Peer, Acted, with_replica}
use Rattle.bep_machine.specs.Exchange.{BeginRow, DeliverRow, AnnounceRow, AskRow}
use Rattle.bep_machine.specs.Cluster.{Cluster, link_between, with_link, with_link_between, with_peer}
use Rattle.bep_machine.specs.Steps.{SharesFolder, IsThere, AtReplica, OverLink, AtLink, ConnectRow, LoseRow, RestartRow, ResetRow, StepRow}
use Rattle.bep_machine.specs.Sound.{IsSound}
use Rattle.bep_machine.specs.Determined.{StepsAreDetermined}
use Rattle.bep_machine.proofs.ThereDecided.{there_decided}
use Rattle.bep_machine.proofs.OneOutcome.{HasOneOutcome, same_made, same_or}
use Rattle.bep_machine.proofs.OneChoice.{ChoiceIsUnique, HasOneChoice, one_choice}
use Rattle.bep_machine.proofs.OneOutcomeLocal.{edit_one_outcome, remove_one_outcome, scan_one_outcome, override_one_outcome, revert_one_outcome}
use Rattle.bep_machine.proofs.OneOutcomePull.{start_pull_one_outcome, finish_one_outcome}
use Rattle.bep_machine.proofs.OneOutcomeLink.{begin_one_outcome, deliver_one_outcome, announce_one_outcome, ask_one_outcome}

-- ---- which part of the cluster a step changes

module _ (old : Cluster) where
  at_replica : (device : Device) (folder : Folder) (row : Replica → Row Replica) → ((before : Replica) → get (old.peer device).replicas folder ≡ Some before → HasOneOutcome (row before)) → HasOneOutcome (AtReplica device folder row old)
  at_replica device folder row each one other answer reply (before, after, is, made, becomes_one) (was, later, is_too, made_too, becomes_other) enough enough_too =
      let same = each before is after later answer reply made (subst (λ (r : Replica). row r later reply) (same_Some was before (sym is_too ∙ is)) made_too) enough enough_too in
      (becomes_one ∙ ap (λ (r : Replica). with_peer old device (with_replica (old.peer device) folder r)) same.0 ∙ sym becomes_other, same.1)

  over_link : (device other : Device) (row : Sight → Peer → Row Acted) → ((sight : Sight) (peer : Peer) → HasOneOutcome (row sight peer)) → HasOneOutcome (OverLink device other row old)
  over_link device other row each new next answer reply (acted, made, becomes_new) (later, made_too, becomes_next) enough enough_too =
      let same = each (sight_of (end_of device other) (link_between old device other)) (old.peer device) acted later answer reply made made_too enough enough_too in (
        becomes_new
            ∙ ap (λ (a : Acted). with_link_between (with_peer old device a.peer) device other (after_deed (end_of device other) a.deed (link_between old device other))) same.0
            ∙ sym becomes_next,
        same.1,
      )

  at_link : (lower upper : Device) (row : Link → Row Link) → ((link : Link) → HasOneOutcome (row link)) → HasOneOutcome (AtLink lower upper row old)
  at_link lower upper row each one other answer reply (after, made, becomes_one) (later, made_too, becomes_other) enough enough_too =
      let same = each (old.link lower upper) after later answer reply made made_too enough enough_too in
      (becomes_one ∙ ap (λ (l : Link). with_link old lower upper l) same.0 ∙ sym becomes_other, same.1)

connect_one_outcome : (old : Link) → HasOneOutcome (ConnectRow old)
connect_one_outcome old one other answer reply row again = same_or row again (λ a b. same_or a b (λ made too. same_made made too))

lose_one_outcome : (old : Link) → HasOneOutcome (LoseRow old)
lose_one_outcome old one other answer reply row again = same_or row again (λ made too. same_made made too)

-- ---- restart and reset

restart_one_outcome : (device : Device) (old : Cluster) → HasOneOutcome (RestartRow device old)
restart_one_outcome device old one other answer reply row again = same_made row again

reset_one_outcome : (device : Device) (id : ℕ) (old : Cluster) → HasOneOutcome (ResetRow device id old)
reset_one_outcome device id old one other answer reply row again = same_or row again (λ made too. same_made made too)

-- ---- the whole

module _ (choice : ChoiceIsUnique) (merge : MergeIsUnique) (bump : BumpIsUnique) where
  -- a device isn't among the others that share its folder, so it chooses one record
  choice_at : (old : Cluster) (device : Device) (folder : Folder) → IsSound old → SharesFolder old.config device folder → (before : Replica) → get (old.peer device).replicas folder ≡ Some before → HasOneChoice device before
  choice_at old device folder sound shares before is =
      let fits = (sound.peers device (sound.config.sharing folder device shares)).fit folder before is in
      one_choice device before (λ among. ((fits.others device).0 among).0 refl) choice

  row_one_outcome : (step : Step) (failed : Option ℕ) (old : Cluster) → IsSound old → IsThere old.config step → HasOneOutcome (StepRow step failed old)
  row_one_outcome (Edit device folder name node) failed old sound there = at_replica old device folder (EditRow name node failed) (λ before is. edit_one_outcome name node failed before)
  row_one_outcome (Remove device folder name) failed old sound there = at_replica old device folder (RemoveRow name failed) (λ before is. remove_one_outcome name failed before)
  row_one_outcome (Scan device folder name) failed old sound there = at_replica old device folder (ScanRow device name failed) (λ before is. scan_one_outcome bump device name failed before)
  row_one_outcome (Override device folder name) failed old sound there =
      at_replica old device folder (OverrideRow device name) (λ before is. override_one_outcome bump device name before (choice_at old device folder sound there before is))
  row_one_outcome (Revert device folder name) failed old sound there = at_replica old device folder (RevertRow device name failed) (λ before is. revert_one_outcome device name failed before)
  row_one_outcome (Connect one other) failed old sound there = at_link old one other ConnectRow connect_one_outcome
  row_one_outcome (Lose one other) failed old sound there = at_link old one other LoseRow lose_one_outcome
  row_one_outcome (Begin device other) failed old sound there = over_link old device other (BeginRow other) (begin_one_outcome other)
  row_one_outcome (Deliver device other) failed old sound there = over_link old device other (DeliverRow other failed) (deliver_one_outcome other failed)
  row_one_outcome (Announce device other folder) failed old sound there = over_link old device other (AnnounceRow other folder) (announce_one_outcome other folder)
  row_one_outcome (StartPull device folder name) failed old sound there =
      at_replica old device folder (StartPullRow device name) (λ before is. start_pull_one_outcome device name before (choice_at old device folder sound there before is))
  row_one_outcome (Ask device other folder name) failed old sound there = over_link old device other (AskRow other folder name) (ask_one_outcome other folder name)
  row_one_outcome (Finish device folder name) failed old sound there = at_replica old device folder (FinishRow device name failed) (λ before is. finish_one_outcome merge device name failed before)
  row_one_outcome (Restart device) failed old sound there = restart_one_outcome device old
  row_one_outcome (Reset device id) failed old sound there = reset_one_outcome device id old

  pub steps_are_determined_lem : StepsAreDetermined
  steps_are_determined_lem step failed old one other answer reply sound (inl grows) again enough enough_too = absurd (enough grows.1.1)
  steps_are_determined_lem step failed old one other answer reply sound (inr row) (inl grows) enough enough_too = absurd (enough_too grows.1.1)
  steps_are_determined_lem step failed old one other answer reply sound (inr (inl missing)) (inr (inl again)) enough enough_too = same_made missing.1 again.1 enough enough_too
  steps_are_determined_lem step failed old one other answer reply sound (inr (inl missing)) (inr (inr passed)) enough enough_too = absurd (passed.0 missing.0)
  steps_are_determined_lem step failed old one other answer reply sound (inr (inr passed)) (inr (inl missing)) enough enough_too = absurd (passed.0 missing.0)
  steps_are_determined_lem step failed old one other answer reply sound (inr (inr passed)) (inr (inr again)) enough enough_too =
      ⊎_elim
      (λ there. row_one_outcome step failed old sound there one other answer reply passed.1 again.1 enough enough_too)
      (λ missing. absurd (passed.0 missing))
      (there_decided old.config step)
