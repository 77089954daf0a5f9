-- What a device made in a folder: its row, or nothing.
use Rattle.std.proofs.Common.{◌≡◌, ◌≢◌, ◌⊎◌, Option, Some, None, IsSome, option_map, inl, inr, sym, ap, ◌∙◌, ⊎_elim}
use Rattle.std.specs.Cmp.Lexicographic.{nat_list_cmp_total}
use Rattle.std.specs.FinMap.{get}
use Rattle.std.proofs.lemmas.Map.Lookups.{exact_bytes}
use Rattle.bep_record.specs.contracts.folder_kind.FolderKind as folder_kind
use Rattle.bep_record.specs.contracts.entry.Entry as entry
use Rattle.bep_record.specs.contracts.node.NodeParts as parts
use Rattle.bep_facts.specs.Decided.{same_or_not}
use Rattle.bep_facts.specs.Maps.{insert-what_is_there}
use Rattle.bep_map.specs.NameMap.{ByName}
use Rattle.bep_model.specs.Tables.{Folder, FileName}
use Rattle.bep_machine.specs.declared.moved.Moved.{Moved}
use Rattle.bep_machine.specs.Answer.{Answer, Done, Row}
use Rattle.bep_machine.specs.Peer.{Peer, with_replica}
use Rattle.bep_machine.specs.Pull.{copy_name}
use Rattle.bep_machine.specs.Replica.{Replica, node_at, own_at}
use Rattle.bep_folder.specs.Held.{Held, tables_code}
use Rattle.bep_peer.specs.Member.{Member, tables_in, tables_of}
use Rattle.bep_peer.specs.Within.{AtFolder, GainsCopyIn, StepWithin}
use Rattle.bep_peer.proofs.Mapped.{get-changed}

-- the row that the folder made, or nothing changed
pub at_folder : (folder : Folder) (row : Replica → Row Replica) (old new : Member) (answer : Answer) → StepWithin folder row old new answer → (tables_of new ≡ tables_of old) ⊎ AtFolder folder row (tables_of old) (tables_of new) answer
at_folder folder row old new answer (inl wanting) = inl wanting.0
at_folder folder row old new answer (inr (inl none)) = inl (ap tables_of none.1.0)
at_folder folder row old new answer (inr (inr made)) = inr made.1

-- what was done was made by the folder
pub done_at_folder : (folder : Folder) (row : Replica → Row Replica) (old new : Member) (moved : Moved) → StepWithin folder row old new (Done moved) → AtFolder folder row (tables_of old) (tables_of new) (Done moved)
done_at_folder folder row old new moved (inl wanting) = let e = wanting.1 in absurd (cc)
done_at_folder folder row old new moved (inr (inl none)) = let e = none.1.1 in absurd (cc)
done_at_folder folder row old new moved (inr (inr made)) = made.1

-- a folder that is as before
pub same_again : (old : Peer) (folder : Folder) (before : Replica) → get old.replicas folder ≡ Some before → with_replica old folder before ≡ old
same_again old folder before is = ap (λ (replicas : ByName Replica). record old { replicas = replicas }) (insert-what_is_there nat_list_cmp_total exact_bytes old.replicas folder before is)

-- the folder changed, or the device is as before
pub changed_or_not : (old new : Peer) (folder : Folder) (before after : Replica) → get old.replicas folder ≡ Some before → new ≡ with_replica old folder after → (new ≡ old) ⊎ (after ≢ before)
changed_or_not old new folder before after is made =
    ⊎_elim
    (λ same. inl (made ∙ ap (with_replica old folder) same ∙ same_again old folder before is))
    (λ changed. inr changed)
    (same_or_not (tables_code folder_kind.the_row.coded entry.the_row.coded parts.the_row.coded) after before)

-- ---- a copy that was kept

-- the tables of a folder that the device has
has_tables : (folders : ByName Held) (folder : Folder) (held : Held) → get folders folder ≡ Some held → get (tables_in folders) folder ≡ Some held.tables
has_tables folders folder held has =
    get-changed nat_list_cmp_total exact_bytes (λ (one : Held). one.tables) folders folder ∙ ap (option_map (λ (one : Held). one.tables)) has

some_is_none : {A : Type 0} (found : Option A) → IsSome found → found ≢ None
some_is_none None some = absurd (cc)
some_is_none (Some x) some = λ none. absurd (cc)

-- a node stands where none stood, so the tables changed
pub gained_changes : (folder : Folder) (name : FileName) (old new : Member) → GainsCopyIn folder name old new → tables_of new ≢ tables_of old
gained_changes folder name old new gains same =
    let before = gains.0 in
    let after = gains.1 in
    let found : Some after.tables ≡ Some before.tables =
    sym (has_tables new.folders folder after gains.3) ∙ ap (λ (p : Peer). get p.replicas folder) same ∙ has_tables old.folders folder before gains.2 in
    let one : after.tables ≡ before.tables = cc in
    let copied = gains.4 in
    let copy = copy_name (own_at before.tables name) in
    some_is_none (node_at after.tables copy) copied.4 (ap (λ (r : Replica). node_at r copy) one ∙ copied.3)
