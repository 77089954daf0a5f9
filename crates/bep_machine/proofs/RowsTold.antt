-- A step of a folder that is logged makes its row at the call that its event tells of.
use Rattle.std.proofs.Common.{◌≡◌, ◌⊎◌, ℕ, true, false, Option, Some, None, refl, inl, inr, ⊎_elim}
use Rattle.bep_record.specs.declared.entry.Entry.{Entry}
use Rattle.bep_record.specs.declared.node.NodeParts.{NodeParts}
use Rattle.bep_model.specs.Tables.{Device, Folder, FileName}
use Rattle.bep_machine.specs.declared.moved.Moved.{Moved}
use Rattle.bep_machine.specs.declared.step.Step.{Step}
use Rattle.bep_machine.specs.declared.step.Step.TheVariants.{Edit, Remove, Scan, Override, Revert, StartPull, Finish}
use Rattle.bep_machine.specs.Answer.{Answer, Done, Refused, OutOfMemory, Row}
use Rattle.bep_machine.specs.Replica.{Replica, own_at}
use Rattle.bep_machine.specs.Local.{Fails, EditRow, RemoveRow, ScanRow, OverrideRow, RevertedRow, RevertRow}
use Rattle.bep_machine.specs.Pull.{StartPullRow, FinishRow}
use Rattle.bep_machine.specs.Halves.{IsDone, kept_told, only_call, SaysNoMore, Ends}
use Rattle.bep_machine.proofs.FinishTold.{finish_told}
use Rattle.bep_machine.proofs.LinkDeeds.{past}
use Rattle.bep_machine.proofs.OnlyCall.{told_may_fail}
use Rattle.bep_machine.proofs.RowEnds.{Stays, edit_stays, remove_stays, scan_stays, override_stays, revert_stays, start_pull_stays, finish_ends}

none_fails : (call : ℕ) → ¬ Fails call None
none_fails call is = absurd (cc)

-- ---- a step that is done is one in which no call fails

edit_done : (name : FileName) (node : NodeParts) (failed : Option ℕ) (old new : Replica) (moved : Moved) → EditRow name node failed old new (Done moved) → EditRow name node None old new (Done moved)
edit_done name node failed old new moved row = inr (none_fails 1, (past row).1)

remove_done : (name : FileName) (failed : Option ℕ) (old new : Replica) (moved : Moved) → RemoveRow name failed old new (Done moved) → RemoveRow name None old new (Done moved)
remove_done name failed old new moved row =
    let there = past (past row).1 in
    inr (none_fails 1, inr (there.0, inr (none_fails 2, (past there.1).1)))

scan_done : (device : Device) (name : FileName) (failed : Option ℕ) (old new : Replica) (moved : Moved) → ScanRow device name failed old new (Done moved) → ScanRow device name None old new (Done moved)
scan_done device name failed old new moved row = inr (none_fails 1, (past row).1)

reverted_done : (device : Device) (name : FileName) (failed : Option ℕ) (own : Option Entry) (old new : Replica) (moved : Moved) → RevertedRow device name failed own old new (Done moved) → RevertedRow device name None own old new (Done moved)
reverted_done device name failed None old new moved row = row
reverted_done device name failed (Some own) old new moved row = inr ((λ both. none_fails 2 both.1), (past row).1)

revert_done : (device : Device) (name : FileName) (failed : Option ℕ) (old new : Replica) (moved : Moved) → RevertRow device name failed old new (Done moved) → RevertRow device name None old new (Done moved)
revert_done device name failed old new moved row =
    let kind = past row in
    let local = past kind.1 in
    let clean = past (past local.1).1 in
    let room = past clean.1 in
    inr (kind.0, inr (local.0, inr (none_fails 1, inr (clean.0, inr (room.0, reverted_done device name failed (own_at old name) old new moved room.1)))))

-- ---- what is logged

-- a step isn't done and changes nothing, or its event says no more than it has to say, and it makes the row that is told
abbrev pub RowTold : Step → Option ℕ → Row Replica → Replica → Replica → Answer → Type 0
RowTold step failed told before after answer =
    ((¬ IsDone answer) × (after ≡ before)) ⊎
    (SaysNoMore step failed (kept_told answer) None × told after answer × Ends (kept_told answer) answer before after)

-- so it is of a step that stays where it isn't done
done_told : (step : Step) (row : Row Replica) (told : Row Replica) (before after : Replica) (answer : Answer) → SaysNoMore step None false None → Stays before after answer →
    ((moved : Moved) → row after (Done moved) → told after (Done moved)) → row after answer → RowTold step None told before after answer
done_told step row told before after (Done moved) says stays done made = inr (says, done moved made, tt)
done_told step row told before after (Refused why) says stays done made = inl ((λ done. done), stays (λ done. done))
done_told step row told before after OutOfMemory says stays done made = inl ((λ done. done), stays (λ done. done))

module _ (device : Device) (folder : Folder) (name : FileName) (failed : Option ℕ) (before after : Replica) (answer : Answer) where
  pub edit_told : (node : NodeParts) → EditRow name node failed before after answer → RowTold (Edit device folder name node) None (EditRow name node None before) before after answer
  edit_told node made =
      done_told (Edit device folder name node) (EditRow name node failed before) (EditRow name node None before) before after answer (refl, refl, refl)
      (edit_stays name node failed before after answer made) (edit_done name node failed before after) made

  pub remove_told : RemoveRow name failed before after answer → RowTold (Remove device folder name) None (RemoveRow name None before) before after answer
  remove_told made =
      done_told (Remove device folder name) (RemoveRow name failed before) (RemoveRow name None before) before after answer (refl, refl, refl)
      (remove_stays name failed before after answer made) (remove_done name failed before after) made

  pub scan_told : ScanRow device name failed before after answer → RowTold (Scan device folder name) None (ScanRow device name None before) before after answer
  scan_told made =
      done_told (Scan device folder name) (ScanRow device name failed before) (ScanRow device name None before) before after answer (refl, refl, refl)
      (scan_stays device name failed before after answer made) (scan_done device name failed before after) made

  pub override_told : OverrideRow device name before after answer → RowTold (Override device folder name) None (OverrideRow device name before) before after answer
  override_told made =
      done_told (Override device folder name) (OverrideRow device name before) (OverrideRow device name before) before after answer (refl, refl, refl)
      (override_stays device name before after answer made) (λ moved row. row) made

  pub revert_told : RevertRow device name failed before after answer → RowTold (Revert device folder name) None (RevertRow device name None before) before after answer
  revert_told made =
      done_told (Revert device folder name) (RevertRow device name failed before) (RevertRow device name None before) before after answer (refl, refl, refl)
      (revert_stays device name failed before after answer made) (revert_done device name failed before after) made

  pub start_pull_told : StartPullRow device name before after answer → RowTold (StartPull device folder name) None (StartPullRow device name before) before after answer
  start_pull_told made =
      done_told (StartPull device folder name) (StartPullRow device name before) (StartPullRow device name before) before after answer (refl, refl, refl)
      (start_pull_stays device name before after answer made) (λ moved row. row) made

-- the end of a pull may keep a copy, and fail then
pub finished_told : (device : Device) (folder : Folder) (name : FileName) (failed : Option ℕ) (before after : Replica) (answer : Answer) → FinishRow device name failed before after answer →
    RowTold (Finish device folder name) (only_call (kept_told answer) 4 failed) (FinishRow device name (only_call (kept_told answer) 4 failed) before) before after answer
finished_told device folder name failed before after answer made = cases answer made
  where
    failing : (given : Answer) → ¬ IsDone given → FinishRow device name failed before after given →
        ((¬ IsDone given) × (after ≡ before)) ⊎ (SaysNoMore (Finish device folder name) (only_call true 4 failed) true None × FinishRow device name (only_call true 4 failed) before after given × Ends true given before after)
    failing given undone row =
        ⊎_elim
        (λ same. inl (undone, same))
        (λ moved. inr ((told_may_fail true 4 failed, refl), finish_told failed true given device name before after (undone, moved) row, (undone, moved)))
        (finish_ends device name failed before after given row undone)

    cases : (given : Answer) → FinishRow device name failed before after given →
        RowTold (Finish device folder name) (only_call (kept_told given) 4 failed) (FinishRow device name (only_call (kept_told given) 4 failed) before) before after given
    cases (Done moved) row = inr ((told_may_fail false 4 failed, refl), finish_told failed false (Done moved) device name before after tt row, tt)
    cases (Refused why) row = failing (Refused why) (λ done. done) row
    cases OutOfMemory row = failing OutOfMemory (λ done. done) row
