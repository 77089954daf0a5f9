-- The steps of one device in one folder that look at its own files have one outcome each.
use Rattle.std.proofs.Common.{◌≡◌, ◌∙◌, ℕ, true, List, Option, Some, None, sym, ap, subst}
use Rattle.bep_record.specs.declared.entry.Entry.{Entry}
use Rattle.bep_record.specs.declared.node.NodeParts.{NodeParts}
use Rattle.bep_record.specs.declared.folder_kind.FolderKind.{FolderKind}
use Rattle.bep_record.specs.declared.folder_kind.FolderKind.TheVariants.{SendReceive, SendOnly, ReceiveOnly}
use Rattle.bep_record.specs.Laws.{BumpIsUnique}
use Rattle.bep_model.specs.Tables.{Device, FileName}
use Rattle.bep_machine.specs.declared.moved.Moved.TheVariants.{Changed}
use Rattle.bep_machine.specs.Answer.{Done, becomes}
use Rattle.bep_machine.specs.Local.{EditRow, RemoveRow, PutRow, FoundRow, ScanRow, OverridingRow, OverrideRow, RevertedRow, RevertRow, Finds, IsRaised, IsMergedAndRaised, overriding}
use Rattle.bep_machine.specs.Replica.{Replica, own_at, node_at, version_of, Chooses, with_record}
use Rattle.bep_machine.proofs.OneOutcome.{HasOneOutcome, same_made, same_or, same_guess}
use Rattle.bep_machine.proofs.OneChoice.{HasOneChoice}
use Rattle.bep_machine.proofs.OneVersion.{one_raised, one_merged_and_raised}

-- ---- the user's own changes

pub edit_one_outcome : (name : FileName) (node : NodeParts) (failed : Option ℕ) (old : Replica) → HasOneOutcome (EditRow name node failed old)
edit_one_outcome name node failed old one other answer reply row again = same_or row again (λ made too. same_made made too)

pub remove_one_outcome : (name : FileName) (failed : Option ℕ) (old : Replica) → HasOneOutcome (RemoveRow name failed old)
remove_one_outcome name failed old one other answer reply row again =
    same_or row again (λ a b. same_or a b (λ c d. same_or c d (λ made too. same_made made too)))

-- ---- new records

-- where one record only is new, the row that puts it has one outcome
put_one_outcome : (name : FileName) (IsNew : Entry → Type 0) (old : Replica) → ((one other : Entry) → IsNew one → IsNew other → one ≡ other) → HasOneOutcome (PutRow name IsNew old)
put_one_outcome name IsNew old unique one other answer reply row again =
    same_or row again (λ a b. same_or a b (λ c d.
    same_guess IsNew (λ entry. becomes (with_record old entry) (Done Changed)) unique
    (λ entry is new next told tells made too. same_made made too) c d))

one_found : (device : Device) (name : FileName) (node : Option NodeParts) (own : Option Entry) (version : List (ℕ × ℕ)) (one other : Entry) → Finds device name node own version one → Finds device name node own version other → one ≡ other
one_found device name (Some node) own version one other is too = is ∙ sym too
one_found device name None (Some own) version one other is too = is ∙ sym too
one_found device name None None version one other is too = absurd is

-- ---- scanning

-- a record with the device's counter raised
abbrev IsFound : Device → FileName → Replica → Entry → Type 0
IsFound device name old entry = (version : List (ℕ × ℕ)) × IsRaised device (version_of (own_at old name)) version × Finds device name (node_at old name) (own_at old name) version entry

raised_is_one : BumpIsUnique → (device : Device) (name : FileName) (old : Replica) (one other : Entry) → IsFound device name old one → IsFound device name old other → one ≡ other
raised_is_one law device name old one other (version, raised, finds) (next, raised_too, finds_too) =
    one_found device name (node_at old name) (own_at old name) next one other
    (subst (λ v. Finds device name (node_at old name) (own_at old name) v one) (one_raised law device (version_of (own_at old name)) version next raised raised_too) finds)
    finds_too

-- a record that is marked as local-only
abbrev IsMarked : Device → FileName → Replica → Entry → Type 0
IsMarked device name old entry = (found : Entry) × Finds device name (node_at old name) (own_at old name) (version_of (own_at old name)) found × (entry ≡ record found { invalid = true })

marked_is_one : (device : Device) (name : FileName) (old : Replica) (one other : Entry) → IsMarked device name old one → IsMarked device name old other → one ≡ other
marked_is_one device name old one other (found, finds, marked) (next, finds_too, marked_too) =
    marked
    ∙ ap (λ (entry : Entry). record entry { invalid = true }) (one_found device name (node_at old name) (own_at old name) (version_of (own_at old name)) found next finds finds_too)
    ∙ sym marked_too

found_one_outcome : BumpIsUnique → (kind : FolderKind) (device : Device) (name : FileName) (old : Replica) → HasOneOutcome (FoundRow kind device name old)
found_one_outcome law ReceiveOnly device name old one other answer reply row again =
    put_one_outcome name (IsMarked device name old) old (marked_is_one device name old) one other answer reply row again
found_one_outcome law SendOnly device name old one other answer reply row again =
    same_or row again (λ a b. same_or a b (λ c d. put_one_outcome name (IsFound device name old) old (raised_is_one law device name old) one other answer reply c d))
found_one_outcome law SendReceive device name old one other answer reply row again =
    same_or row again (λ a b. same_or a b (λ c d. put_one_outcome name (IsFound device name old) old (raised_is_one law device name old) one other answer reply c d))

pub scan_one_outcome : BumpIsUnique → (device : Device) (name : FileName) (failed : Option ℕ) (old : Replica) → HasOneOutcome (ScanRow device name failed old)
scan_one_outcome law device name failed old one other answer reply row again =
    same_or row again (λ a b. same_or a b (λ c d. found_one_outcome law old.kind device name old one other answer reply c d))

-- ---- override

-- the record that wins over the chosen one
abbrev IsOverriding : Device → FileName → Entry → Replica → Entry → Type 0
IsOverriding device name chosen old entry =
    (version : List (ℕ × ℕ)) × IsMergedAndRaised device (version_of (own_at old name)) chosen.version version × (entry ≡ overriding device name (own_at old name) chosen version)

overriding_is_one : BumpIsUnique → (device : Device) (name : FileName) (chosen : Entry) (old : Replica) (one other : Entry) → IsOverriding device name chosen old one → IsOverriding device name chosen old other → one ≡ other
overriding_is_one law device name chosen old one other (version, merged, is) (next, merged_too, is_too) =
    is
    ∙ ap (overriding device name (own_at old name) chosen) (one_merged_and_raised law device (version_of (own_at old name)) chosen.version version next merged merged_too)
    ∙ sym is_too

overriding_one_outcome : BumpIsUnique → (device : Device) (name : FileName) (chosen : Entry) (old : Replica) → HasOneOutcome (OverridingRow device name chosen old)
overriding_one_outcome law device name chosen old one other answer reply row again =
    same_or row again (λ a b. same_or a b (λ c d.
    put_one_outcome name (IsOverriding device name chosen old) old (overriding_is_one law device name chosen old) one other answer reply c d))

pub override_one_outcome : BumpIsUnique → (device : Device) (name : FileName) (old : Replica) → HasOneChoice device old → HasOneOutcome (OverrideRow device name old)
override_one_outcome law device name old choice one other answer reply row again =
    same_or row again (λ a b. same_or a b (λ c d.
    same_guess (Chooses device old name) (λ chosen. OverridingRow device name chosen old) (choice name) (λ chosen is. overriding_one_outcome law device name chosen old) c d))

-- ---- revert

reverted_one_outcome : (device : Device) (name : FileName) (failed : Option ℕ) (own : Option Entry) (old : Replica) → HasOneOutcome (RevertedRow device name failed own old)
reverted_one_outcome device name failed None old one other answer reply row again = absurd row
reverted_one_outcome device name failed (Some own) old one other answer reply row again = same_or row again (λ made too. same_made made too)

pub revert_one_outcome : (device : Device) (name : FileName) (failed : Option ℕ) (old : Replica) → HasOneOutcome (RevertRow device name failed old)
revert_one_outcome device name failed old one other answer reply row again =
    same_or row again (λ a b. same_or a b (λ c d. same_or c d (λ e f. same_or e f (λ g h. same_or g h (λ i j.
    reverted_one_outcome device name failed (own_at old name) old one other answer reply i j)))))
