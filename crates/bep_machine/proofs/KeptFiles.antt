-- The end of a pull and a revert leave each node of another name alone, and each that isn't clean.
use Rattle.std.proofs.Common.{◌≡◌, ◌≢◌, ◌⊎◌, ◌∙◌, ℕ, Option, Some, None, sym, subst, ⊎_elim}
use Rattle.bep_record.specs.declared.entry.Entry.{Entry}
use Rattle.bep_record.specs.declared.node.NodeParts.{NodeParts}
use Rattle.bep_record.specs.Node.{IsClean}
use Rattle.bep_model.specs.Tables.{Device, FileName}
use Rattle.bep_machine.specs.Answer.{Answer, becomes}
use Rattle.bep_machine.specs.Replica.{Replica, Pull, own_at, node_at, with_node}
use Rattle.bep_machine.specs.Local.{RevertedRow, RevertRow}
use Rattle.bep_machine.specs.Pull.{FinishRow, EndingRow, CopyingRow, SettlingRow, RoomRow, copy_name}
use Rattle.bep_machine.specs.Files.{MustStay, FinishKeepsFiles, RevertKeepsFiles}
use Rattle.bep_machine.proofs.CalmRows.{CopiedRow, at_answers, at_becomes}
use Rattle.bep_machine.proofs.ReplicaFacts.{with_node_apart}

-- the name holds this node
abbrev Holds : FileName → NodeParts → Replica → Type 0
Holds other node replica = node_at replica other ≡ Some node

-- where the name is clean, a node that must stay has another one
staying_is_apart : (name other : FileName) (old : Replica) (node : NodeParts) → MustStay name old other node → ¬ (¬ IsClean (node_at old name) (own_at old name)) → other ≢ name
staying_is_apart name other old node stays clean same =
    ⊎_elim
    (λ apart. apart same)
    (λ unclean.
    clean
    (λ here.
    unclean
    (subst (λ (o : Option NodeParts). IsClean o (own_at old other)) stays.0
    (subst (λ (n : FileName). IsClean (node_at old n) (own_at old n)) (sym same) here))))
    stays.1

module _ (old new : Replica) (answer : Answer) (other : FileName) (node : NodeParts) (holds : Holds other node old) where
  -- where a line of a row refuses, the name holds what it held
  or_holds : {given : Answer} {condition R : Type 0} → (condition × becomes old given new answer) ⊎ ((¬ condition) × R) → ((¬ condition) → R → Holds other node new) → Holds other node new
  or_holds row rest = at_answers (Holds other node) row holds rest

  room_holds : (name : FileName) (own : Option Entry) (target : Entry) (rest : Replica → Answer → Type 0) → (rest new answer → Holds other node new) → RoomRow name own target old rest new answer → Holds other node new
  room_holds name own target rest goes row = or_holds row (λ _ few. or_holds few (λ _ counted. or_holds counted (λ _ room. goes room)))

  module _ (name : FileName) (apart : other ≢ name) where
    settling_holds : (pull : Pull) (call : ℕ) (failed : Option ℕ) (own : Option Entry) (held : Option NodeParts) (start : Replica) → Holds other node start → SettlingRow name pull call failed own held start new answer → Holds other node new
    settling_holds pull call failed own held start there row =
        ⊎_elim
        (λ memory. at_becomes (Holds other node) memory there)
        (λ called.
        at_answers (Holds other node) called.2 there
        (λ _ put. at_becomes (Holds other node) put.2 (with_node_apart start name called.0 other apart ∙ there)))
        row

    -- a copy is written where nothing stands
    copied_holds : (pull : Pull) (failed : Option ℕ) (own : Option Entry) (held : Option NodeParts) → CopiedRow name pull failed own held old new answer → Holds other node new
    copied_holds pull failed own held row =
        ⊎_elim
        (λ writes.
        let free : other ≢ copy_name own = λ same. let none = subst (λ (n : FileName). node_at old n ≡ None) (sym same) writes.0 in cc in
        or_holds writes.1
        (λ _ copied. settling_holds pull 4 failed own held (with_node old (copy_name own) held) (with_node_apart old (copy_name own) held other free ∙ holds) copied))
        (λ there. settling_holds pull 3 failed own held old holds there.1)
        row

    copying_holds : (pull : Pull) (failed : Option ℕ) (own : Option Entry) (held : Option NodeParts) → CopyingRow name pull failed own held old new answer → Holds other node new
    copying_holds pull failed own held row =
        or_holds row (λ _ named. or_holds named (λ _ looked. or_holds looked (λ _ free.
        room_holds name own pull.target (CopiedRow name pull failed own held old) (λ room. copied_holds pull failed own held room) free)))

    reverted_holds : (device : Device) (failed : Option ℕ) (own : Option Entry) → RevertedRow device name failed own old new answer → Holds other node new
    reverted_holds device failed None row = absurd row
    reverted_holds device failed (Some own) row = or_holds row (λ _ gone. at_becomes (Holds other node) gone (with_node_apart old name None other apart ∙ holds))

  ending_holds : (name : FileName) (failed : Option ℕ) (pull : Pull) → MustStay name old other node → EndingRow name pull failed old new answer → Holds other node new
  ending_holds name failed pull stays row =
      or_holds row (λ _ received. or_holds received (λ _ looked. or_holds looked (λ clean scanned.
      let apart = staying_is_apart name other old node stays clean in
      ⊎_elim
      (λ copying. copying_holds name apart pull failed (own_at old name) (node_at old name) copying.1)
      (λ alone.
      room_holds name (own_at old name) pull.target (SettlingRow name pull 2 failed (own_at old name) (node_at old name) old)
      (λ room. settling_holds name apart pull 2 failed (own_at old name) (node_at old name) old holds room) alone.1)
      scanned)))

  finish_holds : (device : Device) (name : FileName) (failed : Option ℕ) → MustStay name old other node → FinishRow device name failed old new answer → Holds other node new
  finish_holds device name failed stays row =
      or_holds row (λ _ pulled.
      ⊎_elim
      (λ wanted. ending_holds name failed pulled.0 stays wanted.1)
      (λ unwanted. at_becomes (Holds other node) unwanted.1 holds)
      pulled.2)

  revert_holds : (device : Device) (name : FileName) (failed : Option ℕ) → MustStay name old other node → RevertRow device name failed old new answer → Holds other node new
  revert_holds device name failed stays row =
      or_holds row (λ _ only. or_holds only (λ _ marked. or_holds marked (λ _ looked. or_holds looked (λ clean full. or_holds full (λ _ reverted.
      reverted_holds name (staying_is_apart name other old node stays clean) device failed (own_at old name) reverted)))))

pub finish_keeps_files_lem : FinishKeepsFiles
finish_keeps_files_lem device name other failed old new answer node stays row = finish_holds old new answer other node stays.0 device name failed stays row

pub revert_keeps_files_lem : RevertKeepsFiles
revert_keeps_files_lem device name other failed old new answer node stays row = revert_holds old new answer other node stays.0 device name failed stays row
