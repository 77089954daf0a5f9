-- A step that isn't done leaves all as before, save that the end of a pull may have kept a conflict copy.
use Rattle.std.proofs.Common.{◌≡◌, ◌⊎◌, ◌∙◌, ℕ, Option, Some, None, refl, inl, inr, ⊎_elim}
use Rattle.std.specs.FinMap.{get}
use Rattle.bep_record.specs.declared.entry.Entry.{Entry}
use Rattle.bep_record.specs.declared.node.NodeParts.{NodeParts}
use Rattle.bep_model.specs.Tables.{Device, Folder, FileName}
use Rattle.bep_machine.specs.declared.step.Step.{Step}
use Rattle.bep_machine.specs.declared.step.Step.TheVariants.{Edit, Remove, Scan, Override, Revert, Connect, Lose, Begin, Deliver, Announce, StartPull, Ask, Finish, Restart, Reset}
use Rattle.bep_machine.specs.Answer.{Answer, Row, becomes}
use Rattle.bep_machine.specs.Cluster.{Cluster, with_link}
use Rattle.bep_machine.specs.Exchange.{BeginRow, DeliverRow, AnnounceRow, AskRow}
use Rattle.bep_machine.specs.Halves.{IsDone}
use Rattle.bep_machine.specs.Link.{Link, end_of, sight_of}
use Rattle.bep_machine.specs.Cluster.{link_between}
use Rattle.bep_machine.specs.Local.{EditRow, RemoveRow, ScanRow, OverrideRow, RevertRow}
use Rattle.bep_machine.specs.Pull.{StartPullRow, SettlingRow, RoomRow, CopyingRow, EndingRow, FinishRow, IsStillWanted, copy_name}
use Rattle.bep_machine.specs.Replica.{Pull, Replica, own_at, node_at, with_node}
use Rattle.bep_machine.specs.Steps.{AtReplica, OverLink, AtLink, ConnectRow, LoseRow, StepRow}
use Rattle.bep_machine.specs.Undone.{KeepsCopy, LeavesAll, UndoneStepsLeaveAll}
use Rattle.bep_machine.proofs.ActedEnds.{Rests, begin_rests, announce_rests, ask_rests, deliver_rests}
use Rattle.bep_machine.proofs.CalmRows.{CopiedRow}
use Rattle.bep_machine.proofs.HalfSteps.{same_cluster}
use Rattle.bep_machine.proofs.RowEnds.{Stays, stays_done, stays_or, edit_stays, remove_stays, scan_stays, override_stays, revert_stays, start_pull_stays, settling_stays}
use Rattle.bep_machine.proofs.StepHalves.{put_again, same_links, nothing_between}

-- ---- the end of a pull

-- what isn't done changes nothing, or this happened
abbrev StaysOr : Type 0 → Replica → Replica → Answer → Type 0
StaysOr Happened old new answer = ¬ IsDone answer → (new ≡ old) ⊎ Happened

refused_or : {Happened C R : Type 0} {old new : Replica} {given answer : Answer} → (C × becomes old given new answer) ⊎ ((¬ C) × R) → (R → StaysOr Happened old new answer) → StaysOr Happened old new answer
refused_or row rest = ⊎_elim (λ refused undone. inl refused.1.0) (λ passed. rest passed.1) row

room_or : {Happened : Type 0} (name : FileName) (own : Option Entry) (target : Entry) (old new : Replica) (rest : Row Replica) (answer : Answer) → RoomRow name own target old rest new answer → (rest new answer → StaysOr Happened old new answer) → StaysOr Happened old new answer
room_or name own target old new rest answer row more = refused_or row (λ a. refused_or a (λ b. refused_or b more))

copying_left : (name : FileName) (pull : Pull) (failed : Option ℕ) (own : Option Entry) (node : Option NodeParts) (old new : Replica) (answer : Answer) → CopyingRow name pull failed own node old new answer →
    StaysOr ((node_at old (copy_name own) ≡ None) × (new ≡ with_node old (copy_name own) node)) old new answer
copying_left name pull failed own node old new answer row =
    refused_or row (λ a. refused_or a (λ b. refused_or b (λ c.
    room_or name own pull.target old new (CopiedRow name pull failed own node old) answer c (λ (ends : CopiedRow name pull failed own node old new answer).
    ⊎_elim
    (λ fresh. refused_or fresh.1 (λ settles undone. inr (fresh.0, settling_stays name pull 4 failed own node _ new answer settles undone)))
    (λ there undone. inl (settling_stays name pull 3 failed own node old new answer there.1 undone))
    ends))))

pub finish_left : (device : Device) (name : FileName) (failed : Option ℕ) (old new : Replica) (answer : Answer) → FinishRow device name failed old new answer → StaysOr (KeepsCopy device name old new) old new answer
finish_left device name failed old new answer row = refused_or row (λ more. ⊎_elim (λ wanted. ending more.0 more.1 wanted.0 wanted.1) (λ dropped undone. inl (stays_done dropped.1 undone)) more.2)
  where
    ending : (pull : Pull) → get old.pulls name ≡ Some pull → IsStillWanted device old name pull.target → EndingRow name pull failed old new answer → StaysOr (KeepsCopy device name old new) old new answer
    ending pull is wanted row =
        refused_or row (λ a. refused_or a (λ b. refused_or b (λ ends.
        ⊎_elim
        (λ due undone. ⊎_elim (λ same. inl same) (λ copied. inr (pull, is, wanted, due.0, copied.0, copied.1)) (copying_left name pull failed (own_at old name) (node_at old name) old new answer due.1 undone))
        (λ free. room_or name (own_at old name) pull.target old new (SettlingRow name pull 2 failed (own_at old name) (node_at old name) old) answer free.1 (λ settles undone. inl (settling_stays name pull 2 failed (own_at old name) (node_at old name) old new answer settles undone)))
        ends)))

-- ---- links

connect_stays : (old new : Link) (answer : Answer) → ConnectRow old new answer → Stays old new answer
connect_stays old new answer row = stays_or row (λ down. stays_or down (λ made. stays_done made))

lose_stays : (old new : Link) (answer : Answer) → LoseRow old new answer → Stays old new answer
lose_stays old new answer row = stays_or row (λ made. stays_done made)

-- ---- the whole

module _ (old new : Cluster) (answer : Answer) where
  at_replica : (device : Device) (folder : Folder) (row : Replica → Row Replica) → ((before after : Replica) (answer : Answer) → row before after answer → Stays before after answer) → AtReplica device folder row old new answer → Stays old new answer
  at_replica device folder row stays (before, after, is, made, same) undone = same ∙ put_again old device folder before after is (stays before after answer made undone)

  over_link : (device other : Device) (row : _) → Rests row → OverLink device other row old new answer → Stays old new answer
  over_link device other row rests (acted, made, same) undone =
      same ∙ nothing_between old device other acted (rests (sight_of (end_of device other) (link_between old device other)) (old.peer device) acted answer made undone)

  at_link : (lower upper : Device) (row : Link → Row Link) → ((before after : Link) (answer : Answer) → row before after answer → Stays before after answer) → AtLink lower upper row old new answer → Stays old new answer
  at_link lower upper row stays (after, made, same) undone =
      same ∙ same_cluster (with_link old lower upper after) old refl (λ one. refl) (same_links old lower upper after (stays (old.link lower upper) after answer made undone))

  finished : (device : Device) (folder : Folder) (name : FileName) (failed : Option ℕ) → AtReplica device folder (FinishRow device name failed) old new answer → ¬ IsDone answer → LeavesAll (Finish device folder name) old new
  finished device folder name failed (before, after, is, made, same) undone =
      ⊎_elim
      (λ stays. inl (same ∙ put_again old device folder before after is stays))
      (λ keeps. inr (before, after, is, keeps, same))
      (finish_left device name failed before after answer made undone)

  row_left : (step : Step) (failed : Option ℕ) → StepRow step failed old new answer → ¬ IsDone answer → LeavesAll step old new
  row_left (Edit device folder name node) failed = at_replica device folder (EditRow name node failed) (edit_stays name node failed)
  row_left (Remove device folder name) failed = at_replica device folder (RemoveRow name failed) (remove_stays name failed)
  row_left (Scan device folder name) failed = at_replica device folder (ScanRow device name failed) (scan_stays device name failed)
  row_left (Override device folder name) failed = at_replica device folder (OverrideRow device name) (override_stays device name)
  row_left (Revert device folder name) failed = at_replica device folder (RevertRow device name failed) (revert_stays device name failed)
  row_left (Connect one other) failed = at_link one other ConnectRow connect_stays
  row_left (Lose one other) failed = at_link one other LoseRow lose_stays
  row_left (Begin device other) failed = over_link device other (BeginRow other) (begin_rests other)
  row_left (Deliver device other) failed = over_link device other (DeliverRow other failed) (deliver_rests other failed)
  row_left (Announce device other folder) failed = over_link device other (AnnounceRow other folder) (announce_rests other folder)
  row_left (StartPull device folder name) failed = at_replica device folder (StartPullRow device name) (start_pull_stays device name)
  row_left (Ask device other folder name) failed = over_link device other (AskRow other folder name) (ask_rests other folder name)
  row_left (Finish device folder name) failed = finished device folder name failed
  row_left (Restart device) failed = λ made undone. stays_done made undone
  row_left (Reset device id) failed = λ made. stays_or made (λ resets. stays_done resets)

-- where all is as before, nothing was kept
all_left : (step : Step) (old new : Cluster) → new ≡ old → LeavesAll step old new
all_left (Finish device folder name) old new same = inl same
all_left step old new same = same

pub undone_steps_leave_all_lem : UndoneStepsLeaveAll
undone_steps_leave_all_lem step failed old new answer (inl wants) undone = all_left step old new wants.1.0
undone_steps_leave_all_lem step failed old new answer (inr (inl missing)) undone = all_left step old new missing.1.0
undone_steps_leave_all_lem step failed old new answer (inr (inr made)) undone = row_left old new answer step failed made.1 undone
