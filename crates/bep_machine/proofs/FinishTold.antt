-- The end of a pull that is logged: done, or failed once it had kept a conflict copy. It is the same whichever call of the
-- store fails, save the last one after the copy.
use Rattle.std.proofs.Common.{◌≡◌, ◌≢◌, ◌⊎◌, ◌∙◌, ℕ, Bool, true, false, Option, Some, refl, sym, ap, subst, inl, inr, ⊎_elim}
use Rattle.bep_record.specs.declared.entry.Entry.{Entry}
use Rattle.bep_record.specs.declared.node.NodeParts.{NodeParts}
use Rattle.bep_model.specs.Tables.{Device, FileName}
use Rattle.bep_machine.specs.Answer.{Answer, Refused, Row, becomes}
use Rattle.bep_machine.specs.Replica.{Pull, Replica, own_at, node_at, with_node}
use Rattle.bep_machine.specs.Local.{Fails}
use Rattle.bep_machine.specs.Pull.{SettlingRow, RoomRow, CopyingRow, EndingRow, FinishRow, copy_name}
use Rattle.bep_machine.specs.Halves.{IsDone, only_call, Ends}
use Rattle.bep_machine.proofs.CalmRows.{CopiedRow}
use Rattle.bep_machine.proofs.OnlyCall.{told_where_made, made_where_told}
use Rattle.bep_machine.proofs.RowEnds.{settling_stays}

-- what was refused at once isn't logged
passed : {old new : Replica} {why : _} {answer : Answer} {C R : Type 0} (kept : Bool) → Ends kept answer old new → (C × becomes old (Refused why) new answer) ⊎ ((¬ C) × R) → (¬ C) × R
passed kept ends (inr more) = more
passed false ends (inl refused) = absurd (subst IsDone refused.1.1 ends)
passed true ends (inl refused) = absurd (ends.1 refused.1.0)

module _ (failed : Option ℕ) (kept : Bool) where
  -- no other call is told
  never : (call : ℕ) → call ≢ 4 → ¬ Fails call (only_call kept 4 failed)
  never call apart told = apart (made_where_told kept 4 call failed told).1

  room_told : (name : FileName) (own : Option Entry) (target : Entry) (old new : Replica) (rest told : Row Replica) (answer : Answer) → Ends kept answer old new → (rest new answer → told new answer) →
      RoomRow name own target old rest new answer → RoomRow name own target old told new answer
  room_told name own target old new rest told answer ends more row =
      let a = passed kept ends row in
      let b = passed kept ends a.1 in
      let c = passed kept ends b.1 in
      inr (a.0, inr (b.0, inr (c.0, more c.1)))

-- the last call, before which nothing was changed, or which is the fourth
settling_told : (name : FileName) (pull : Pull) (call : ℕ) (failed : Option ℕ) (kept : Bool) (own : Option Entry) (held : Option NodeParts) (old start new : Replica) (answer : Answer) → (start ≡ old) ⊎ (call ≡ 4) → Ends kept answer old new →
    SettlingRow name pull call failed own held start new answer → SettlingRow name pull call (only_call kept 4 failed) own held start new answer
settling_told name pull call failed false own held old start new answer began ends (inl wants) = absurd (subst IsDone wants.1 ends)
settling_told name pull call failed false own held old start new answer began ends (inr (after, is, inl fails)) = absurd (subst IsDone fails.1.1 ends)
settling_told name pull call failed false own held old start new answer began ends (inr (after, is, inr (not_fails, made))) =
    inr (after, is, inr ((λ told. let none = told.1 in absurd (cc)), made))
settling_told name pull call failed true own held old start new answer (inl same) ends row =
    absurd (ends.1 (settling_stays name pull call failed own held start new answer row ends.0 ∙ same))
settling_told name pull call failed true own held old start new answer (inr fourth) ends (inl wants) = inl wants
settling_told name pull call failed true own held old start new answer (inr fourth) ends (inr (after, is, inl ((calls, fails), stays))) =
    inr (after, is, inl ((calls, told_where_made 4 failed (fails ∙ ap (λ n. Some n) fourth) ∙ ap (λ n. Some n) (sym fourth)), stays))
settling_told name pull call failed true own held old start new answer (inr fourth) ends (inr (after, is, inr (not_fails, (entry, adopted, made)))) =
    absurd (ends.0 (subst IsDone (sym made.1) tt))

module _ (failed : Option ℕ) (kept : Bool) (answer : Answer) where
  copied_told : (name : FileName) (pull : Pull) (own : Option Entry) (held : Option NodeParts) (old new : Replica) → Ends kept answer old new →
      CopiedRow name pull failed own held old new answer → CopiedRow name pull (only_call kept 4 failed) own held old new answer
  copied_told name pull own held old new ends (inl (fresh, row)) =
      inl (fresh, inr (never failed kept 3 (λ wrong. absurd (cc)), settling_told name pull 4 failed kept own held old (with_node old (copy_name own) held) new answer (inr refl) ends (passed kept ends row).1))
  copied_told name pull own held old new ends (inr (there, row)) =
      inr (there, settling_told name pull 3 failed kept own held old old new answer (inl refl) ends row)

  copying_told : (name : FileName) (pull : Pull) (own : Option Entry) (held : Option NodeParts) (old new : Replica) → Ends kept answer old new →
      CopyingRow name pull failed own held old new answer → CopyingRow name pull (only_call kept 4 failed) own held old new answer
  copying_told name pull own held old new ends row =
      let a = passed kept ends row in
      let b = passed kept ends a.1 in
      let c = passed kept ends b.1 in
      inr (
        a.0,
        inr (
          never failed kept 2 (λ wrong. absurd (cc)),
          inr (
            c.0,
            room_told failed kept name own pull.target old new (CopiedRow name pull failed own held old) (CopiedRow name pull (only_call kept 4 failed) own held old) answer ends
                (λ copied. copied_told name pull own held old new ends copied) c.1,
          ),
        ),
      )

  ending_told : (name : FileName) (pull : Pull) (old new : Replica) → Ends kept answer old new →
      EndingRow name pull failed old new answer → EndingRow name pull (only_call kept 4 failed) old new answer
  ending_told name pull old new ends row =
      let own = own_at old name in
      let held = node_at old name in
      let a = passed kept ends row in
      let b = passed kept ends a.1 in
      let c = passed kept ends b.1 in
      inr (
        a.0,
        inr (
          never failed kept 1 (λ wrong. absurd (cc)),
          inr (
            c.0,
            ⊎_elim
                (λ due. inl (due.0, copying_told name pull own held old new ends due.1))
                (λ free. inr (
                  free.0,
                  room_told failed kept name own pull.target old new (SettlingRow name pull 2 failed own held old) (SettlingRow name pull 2 (only_call kept 4 failed) own held old) answer ends
                      (λ settles. settling_told name pull 2 failed kept own held old old new answer (inl refl) ends settles) free.1,
                ))
                c.1,
          ),
        ),
      )

  pub finish_told : (device : Device) (name : FileName) (old new : Replica) → Ends kept answer old new →
      FinishRow device name failed old new answer → FinishRow device name (only_call kept 4 failed) old new answer
  finish_told device name old new ends row =
      let a = passed kept ends row in
      let pull = a.1.0 in
      inr (
        a.0,
        (pull, a.1.1, ⊎_elim (λ wanted. inl (wanted.0, ending_told name pull old new ends wanted.1)) (λ dropped. inr dropped) a.1.2),
      )
