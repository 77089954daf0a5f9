-- Beginning and ending a pull have one outcome each.
use Rattle.std.proofs.Common.{◌≡◌, ◌∙◌, ℕ, Option, Some, sym, inl, inr}
use Rattle.std.proofs.lemmas.Option.{same_Some}
use Rattle.bep_record.specs.declared.entry.Entry.{Entry}
use Rattle.bep_record.specs.declared.node.NodeParts.{NodeParts}
use Rattle.bep_record.specs.Laws.{MergeIsUnique}
use Rattle.bep_model.specs.Tables.{Device, FileName}
use Rattle.bep_machine.specs.declared.moved.Moved.TheVariants.{Changed, Dropped}
use Rattle.bep_machine.specs.declared.refusal.Refusal.TheVariants.{StoreFault}
use Rattle.bep_machine.specs.Answer.{Done, Refused, Row, becomes, when◌then◌else◌, ◌answers◌when◌else◌}
use Rattle.bep_machine.specs.Local.{Fails}
use Rattle.bep_machine.specs.Pull.{ChosenRow, StartPullRow, EndsWith, IsAdopted, CallsStore, SettlingRow, RoomRow, CopyingRow, EndingRow, FinishRow, IsStillWanted, copy_name}
use Rattle.bep_machine.specs.Replica.{Pull, Replica, own_at, node_at, pull_at, Chooses, with_record, with_node, without_pull}
use Rattle.bep_machine.proofs.CalmRows.{CopiedRow}
use Rattle.bep_machine.proofs.OneOutcome.{HasOneOutcome, same_made, same_either, same_or, same_guess}
use Rattle.bep_machine.proofs.OneChoice.{HasOneChoice}
use Rattle.bep_machine.proofs.OneVersion.{one_adopted}

-- ---- beginning a pull

chosen_one_outcome : (name : FileName) (chosen : Entry) (old : Replica) → HasOneOutcome (ChosenRow name chosen old)
chosen_one_outcome name chosen old one other answer reply row again =
    same_or row again (λ a b. same_or a b (λ c d. same_or c d (λ made too. same_made made too)))

pub start_pull_one_outcome : (device : Device) (name : FileName) (old : Replica) → HasOneChoice device old → HasOneOutcome (StartPullRow device name old)
start_pull_one_outcome device name old choice one other answer reply row again =
    same_or row again (λ a b.
    same_guess (Chooses device old name) (λ chosen. ChosenRow name chosen old) (choice name) (λ chosen is. chosen_one_outcome name chosen old) a b)

-- ---- ending a pull

one_after : (own : Option Entry) (held : Option NodeParts) (pull : Pull) (one other : Option NodeParts) → EndsWith own held pull one → EndsWith own held pull other → one ≡ other
one_after own held pull one other ends again = same_either ends again (λ is too. is ∙ sym too) (λ is too. is ∙ sym too)

-- what is left of the end once it is known what the name holds afterwards
abbrev AfterRow : FileName → Pull → ℕ → Option ℕ → Option Entry → Option NodeParts → Replica → Option NodeParts → Row Replica
AfterRow name pull call failed own held start after =
    start answers Refused StoreFault when CallsStore own held pull.target after × Fails call failed else
    (λ new answer. (entry : Entry) × IsAdopted own pull.target entry ×
    becomes (without_pull (with_record (with_node start name after) entry) name) (Done Changed) new answer)

after_one_outcome : MergeIsUnique → (name : FileName) (pull : Pull) (call : ℕ) (failed : Option ℕ) (own : Option Entry) (held : Option NodeParts) (start : Replica) (after : Option NodeParts) →
    HasOneOutcome (AfterRow name pull call failed own held start after)
after_one_outcome law name pull call failed own held start after one other answer reply row again =
    same_or row again (λ a b.
    same_guess (IsAdopted own pull.target) (λ entry. becomes (without_pull (with_record (with_node start name after) entry) name) (Done Changed)) (one_adopted law own pull.target)
    (λ entry is new next told tells made too. same_made made too) a b)

settling_one_outcome : MergeIsUnique → (name : FileName) (pull : Pull) (call : ℕ) (failed : Option ℕ) (own : Option Entry) (held : Option NodeParts) (start : Replica) →
    HasOneOutcome (SettlingRow name pull call failed own held start)
settling_one_outcome law name pull call failed own held start one other answer reply (inl wanting) again = λ made made_too. absurd (made wanting.1)
settling_one_outcome law name pull call failed own held start one other answer reply (inr ends) (inl wanting) = λ made made_too. absurd (made_too wanting.1)
settling_one_outcome law name pull call failed own held start one other answer reply (inr ends) (inr again) =
    same_guess (EndsWith own held pull) (AfterRow name pull call failed own held start) (one_after own held pull)
    (λ after is. after_one_outcome law name pull call failed own held start after) ends again

room_one_outcome : (name : FileName) (own : Option Entry) (target : Entry) (old : Replica) (rest : Row Replica) → HasOneOutcome rest → HasOneOutcome (RoomRow name own target old rest)
room_one_outcome name own target old rest each one other answer reply row again =
    same_or row again (λ a b. same_or a b (λ c d. same_or c d (λ made too. each one other answer reply made too)))

copied_one_outcome : MergeIsUnique → (name : FileName) (pull : Pull) (failed : Option ℕ) (own : Option Entry) (held : Option NodeParts) (old : Replica) → HasOneOutcome (CopiedRow name pull failed own held old)
copied_one_outcome law name pull failed own held old one other answer reply row again =
    same_either row again
    (λ a b. same_or a b (λ made too. settling_one_outcome law name pull 4 failed own held (with_node old (copy_name own) held) one other answer reply made too))
    (λ made too. settling_one_outcome law name pull 3 failed own held old one other answer reply made too)

copying_one_outcome : MergeIsUnique → (name : FileName) (pull : Pull) (failed : Option ℕ) (own : Option Entry) (held : Option NodeParts) (old : Replica) → HasOneOutcome (CopyingRow name pull failed own held old)
copying_one_outcome law name pull failed own held old one other answer reply row again =
    same_or row again (λ a b. same_or a b (λ c d. same_or c d (λ made too.
    room_one_outcome name own pull.target old (CopiedRow name pull failed own held old) (copied_one_outcome law name pull failed own held old) one other answer reply made too)))

ending_one_outcome : MergeIsUnique → (name : FileName) (pull : Pull) (failed : Option ℕ) (old : Replica) → HasOneOutcome (EndingRow name pull failed old)
ending_one_outcome law name pull failed old one other answer reply row again =
    same_or row again (λ a b. same_or a b (λ c d. same_or c d (λ e f.
    same_either e f
    (λ due too. copying_one_outcome law name pull failed (own_at old name) (node_at old name) old one other answer reply due too)
    (λ free too.
    room_one_outcome name (own_at old name) pull.target old (SettlingRow name pull 2 failed (own_at old name) (node_at old name) old)
    (settling_one_outcome law name pull 2 failed (own_at old name) (node_at old name) old) one other answer reply free too))))

-- the pull of the name ends, or is dropped
abbrev PulledRow : Device → FileName → Option ℕ → Replica → Pull → Row Replica
PulledRow device name failed old pull =
    when IsStillWanted device old name pull.target
    then EndingRow name pull failed old
    else becomes (without_pull old name) (Done Dropped)

pub finish_one_outcome : MergeIsUnique → (device : Device) (name : FileName) (failed : Option ℕ) (old : Replica) → HasOneOutcome (FinishRow device name failed old)
finish_one_outcome law device name failed old one other answer reply row again =
    same_or row again (λ a b.
    same_guess (λ pull. pull_at old name ≡ Some pull) (PulledRow device name failed old) (λ pull next is too. same_Some pull next (sym is ∙ too))
    (λ pull is new next told tells c d. same_either c d
    (λ wanted too. ending_one_outcome law name pull failed old new next told tells wanted too)
    (λ dropped too. same_made dropped too))
    a b)
