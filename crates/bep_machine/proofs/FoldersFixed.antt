-- No event changes a folder's kind or who shares it, and only a reset the id of its index.
use Rattle.std.proofs.Common.{◌≡◌, ◌⊎◌, ◌∙◌, ◌==◌, ℕ, Bool, true, false, List, [], ◌∷◌, Option, Some, None, Contains, option_map, refl, sym, ap, subst, inl, inr, ⊎_elim, eqb-true}
use Rattle.std.proofs.lemmas.List.Elements.{Contains-append_left, Contains-append_right}
use Rattle.std.specs.Cmp.Lexicographic.{nat_list_cmp_total}
use Rattle.std.specs.FinMap.{get, insert}
use Rattle.bep_facts.specs.Members.{Contains-first}
use Rattle.bep_map.specs.NameMap.{ByName}
use Rattle.bep_index.specs.declared.send.Plan.{Plan}
use Rattle.bep_index.specs.Listing.{Listing}
use Rattle.bep_record.specs.declared.entry.Entry.{Entry}
use Rattle.bep_record.specs.declared.folder_kind.FolderKind.{FolderKind}
use Rattle.bep_record.specs.declared.folder_kind.FolderKind.TheVariants.{SendReceive, SendOnly, ReceiveOnly}
use Rattle.bep_record.specs.declared.node.NodeParts.{NodeParts}
use Rattle.bep_model.specs.Tables.{Device, Folder, FileName}
use Rattle.bep_machine.specs.declared.message.Announced.{Announced}
use Rattle.bep_machine.specs.declared.message.Message.{Message}
use Rattle.bep_machine.specs.declared.message.Message.TheVariants as messages
use Rattle.bep_machine.specs.declared.message.Request.{Request}
use Rattle.bep_machine.specs.declared.message.Response.{Response}
use Rattle.bep_machine.specs.declared.step.Step.{Step}
use Rattle.bep_machine.specs.declared.step.Step.TheVariants.{Edit, Remove, Scan, Override, Revert, Connect, Lose, Begin, Deliver, Announce, StartPull, Ask, Finish, Restart, Reset}
use Rattle.bep_machine.specs.Answer.{Answer, Done, Row}
use Rattle.bep_machine.specs.Replica.{Pull, Replica, own_at, node_at, pull_at, view_of, with_node, with_view}
use Rattle.bep_machine.specs.Local.{EditRow, RemoveRow, PutRow, FoundRow, ScanRow, OverridingRow, OverrideRow, RevertedRow, RevertRow}
use Rattle.bep_machine.specs.Pull.{ChosenRow, StartPullRow, SettlingRow, RoomRow, CopyingRow, EndingRow, FinishRow, copy_name}
use Rattle.bep_machine.specs.Link.{Sight}
use Rattle.bep_machine.specs.Peer.{Session, Peer, Acted}
use Rattle.bep_machine.specs.Exchange.{SessionRow, BeginRow, ViewRow, with_block, with_received, AskedRow, asked_for, MessageRow, WaitingRow, DeliverRow, known_under, renewed, all_renewed, CursorRow, AnnounceRow, AskingRow, AskRow}
use Rattle.bep_machine.specs.Steps.{without_pulls, restarted, anew_under, reset_to, reset_by}
use Rattle.bep_machine.specs.declared.logged.Logged.{Logged}
use Rattle.bep_machine.specs.declared.logged.Traffic.{Traffic}
use Rattle.bep_machine.specs.Halves.{guards_of, touches_device, SaysNoMore, InFolder, ByTraffic, PeerHalf, OnlyIf, PeerStep, reset_in_log}
use Rattle.bep_machine.specs.HalfLaws.{Keeps, shared_as, index_id, ReplaysKeepSharing, ReplaysKeepIds}
use Rattle.bep_machine.proofs.CalmRows.{at_becomes, at_answers, CopiedRow}
use Rattle.bep_machine.proofs.FoundAfter.{get-mapped}
use Rattle.bep_machine.proofs.Places.{each_name_after_insert}

-- ---- a replica

-- what no event changes of a folder
abbrev Fixed : Type 0
Fixed = (FolderKind × List Device) × ℕ

abbrev fixed : Replica → Fixed
fixed replica = (shared_as replica, index_id replica)

-- these two are the same folder
abbrev Alike : Replica → Replica → Type 0
Alike old new = fixed new ≡ fixed old

with_node_alike : (replica : Replica) (name : FileName) (held : Option NodeParts) → Alike replica (with_node replica name held)
with_node_alike replica name None = refl
with_node_alike replica name (Some held) = refl

edit_alike : (name : FileName) (node : NodeParts) (failed : Option ℕ) (old new : Replica) (answer : Answer) → EditRow name node failed old new answer → Alike old new
edit_alike name node failed old new answer row = at_answers (Alike old) row refl (λ _ made. at_becomes (Alike old) made refl)

remove_alike : (name : FileName) (failed : Option ℕ) (old new : Replica) (answer : Answer) → RemoveRow name failed old new answer → Alike old new
remove_alike name failed old new answer row =
    at_answers (Alike old) row refl (λ _ a. at_answers (Alike old) a refl (λ _ b. at_answers (Alike old) b refl (λ _ made. at_becomes (Alike old) made refl)))

put_alike : (name : FileName) (IsNew : Entry → Type 0) (old new : Replica) (answer : Answer) → PutRow name IsNew old new answer → Alike old new
put_alike name IsNew old new answer row =
    at_answers (Alike old) row refl (λ _ a. at_answers (Alike old) a refl (λ _ put. at_becomes (Alike old) put.2 refl))

found_alike : (kind : FolderKind) (device : Device) (name : FileName) (old new : Replica) (answer : Answer) → FoundRow kind device name old new answer → Alike old new
found_alike ReceiveOnly device name old new answer row = put_alike name _ old new answer row
found_alike SendOnly device name old new answer row = at_answers (Alike old) row refl (λ _ a. at_answers (Alike old) a refl (λ _ put. put_alike name _ old new answer put))
found_alike SendReceive device name old new answer row = at_answers (Alike old) row refl (λ _ a. at_answers (Alike old) a refl (λ _ put. put_alike name _ old new answer put))

scan_alike : (device : Device) (name : FileName) (failed : Option ℕ) (old new : Replica) (answer : Answer) → ScanRow device name failed old new answer → Alike old new
scan_alike device name failed old new answer row =
    at_answers (Alike old) row refl (λ _ a. at_answers (Alike old) a refl (λ _ found. found_alike old.kind device name old new answer found))

overriding_alike : (device : Device) (name : FileName) (chosen : Entry) (old new : Replica) (answer : Answer) → OverridingRow device name chosen old new answer → Alike old new
overriding_alike device name chosen old new answer row =
    at_answers (Alike old) row refl (λ _ a. at_answers (Alike old) a refl (λ _ put. put_alike name _ old new answer put))

override_alike : (device : Device) (name : FileName) (old new : Replica) (answer : Answer) → OverrideRow device name old new answer → Alike old new
override_alike device name old new answer row =
    at_answers (Alike old) row refl (λ _ a. at_answers (Alike old) a refl (λ _ can. overriding_alike device name can.0 old new answer can.2))

reverted_alike : (device : Device) (name : FileName) (failed : Option ℕ) (own : Option Entry) (old new : Replica) (answer : Answer) → RevertedRow device name failed own old new answer → Alike old new
reverted_alike device name failed None old new answer row = absurd row
reverted_alike device name failed (Some own) old new answer row = at_answers (Alike old) row refl (λ _ made. at_becomes (Alike old) made refl)

revert_alike : (device : Device) (name : FileName) (failed : Option ℕ) (old new : Replica) (answer : Answer) → RevertRow device name failed old new answer → Alike old new
revert_alike device name failed old new answer row =
    at_answers (Alike old) row refl (λ _ a. at_answers (Alike old) a refl (λ _ b. at_answers (Alike old) b refl (λ _ c. at_answers (Alike old) c refl (λ _ d. at_answers (Alike old) d refl (λ _ e.
    reverted_alike device name failed (own_at old name) old new answer e)))))

chosen_alike : (name : FileName) (chosen : Entry) (old new : Replica) (answer : Answer) → ChosenRow name chosen old new answer → Alike old new
chosen_alike name chosen old new answer row =
    at_answers (Alike old) row refl (λ _ a. at_answers (Alike old) a refl (λ _ b. at_answers (Alike old) b refl (λ _ made. at_becomes (Alike old) made refl)))

start_pull_alike : (device : Device) (name : FileName) (old new : Replica) (answer : Answer) → StartPullRow device name old new answer → Alike old new
start_pull_alike device name old new answer row = at_answers (Alike old) row refl (λ _ more. chosen_alike name more.0 old new answer more.2)

-- ---- the end of a pull

settling_alike : (name : FileName) (pull : Pull) (call : ℕ) (failed : Option ℕ) (own : Option Entry) (held : Option NodeParts) (old start new : Replica) (answer : Answer) → Alike old start → SettlingRow name pull call failed own held start new answer → Alike old new
settling_alike name pull call failed own held old start new answer same (inl wants) = at_becomes (Alike old) wants same
settling_alike name pull call failed own held old start new answer same (inr (after, is, row)) =
    at_answers (Alike old) row same (λ _ made. at_becomes (Alike old) made.2 (with_node_alike start name after ∙ same))

room_alike : (name : FileName) (own : Option Entry) (target : Entry) (old new : Replica) (rest : Row Replica) (answer : Answer) → RoomRow name own target old rest new answer → (rest new answer → Alike old new) → Alike old new
room_alike name own target old new rest answer row more =
    at_answers (Alike old) row refl (λ _ a. at_answers (Alike old) a refl (λ _ b. at_answers (Alike old) b refl (λ _ made. more made)))

copied_alike : (name : FileName) (pull : Pull) (failed : Option ℕ) (own : Option Entry) (held : Option NodeParts) (old new : Replica) (answer : Answer) → CopiedRow name pull failed own held old new answer → Alike old new
copied_alike name pull failed own held old new answer (inl (fresh, row)) =
    at_answers (Alike old) row refl (λ _ settles. settling_alike name pull 4 failed own held old (with_node old (copy_name own) held) new answer (with_node_alike old (copy_name own) held) settles)
copied_alike name pull failed own held old new answer (inr (there, row)) = settling_alike name pull 3 failed own held old old new answer refl row

copying_alike : (name : FileName) (pull : Pull) (failed : Option ℕ) (own : Option Entry) (held : Option NodeParts) (old new : Replica) (answer : Answer) → CopyingRow name pull failed own held old new answer → Alike old new
copying_alike name pull failed own held old new answer row =
    at_answers (Alike old) row refl (λ _ a. at_answers (Alike old) a refl (λ _ b. at_answers (Alike old) b refl (λ _ c.
    room_alike name own pull.target old new (CopiedRow name pull failed own held old) answer c (λ copied. copied_alike name pull failed own held old new answer copied))))

ending_alike : (name : FileName) (pull : Pull) (failed : Option ℕ) (old new : Replica) (answer : Answer) → EndingRow name pull failed old new answer → Alike old new
ending_alike name pull failed old new answer row =
    let own = own_at old name in
    let held = node_at old name in
    at_answers (Alike old) row refl (λ _ a. at_answers (Alike old) a refl (λ _ b. at_answers (Alike old) b refl (λ _ ends.
    ⊎_elim
    (λ due. copying_alike name pull failed own held old new answer due.1)
    (λ free. room_alike name own pull.target old new (SettlingRow name pull 2 failed own held old) answer free.1 (λ settles. settling_alike name pull 2 failed own held old old new answer refl settles))
    ends)))

finish_alike : (device : Device) (name : FileName) (failed : Option ℕ) (old new : Replica) (answer : Answer) → FinishRow device name failed old new answer → Alike old new
finish_alike device name failed old new answer row =
    at_answers (Alike old) row refl (λ _ more.
    ⊎_elim (λ wanted. ending_alike name more.0 failed old new answer wanted.1) (λ dropped. at_becomes (Alike old) dropped.1 refl) more.2)

-- ---- a device

-- a device's folders, as they are fixed
abbrev AreAlike : ByName Replica → ByName Replica → Type 0
AreAlike old new = (folder : Folder) → option_map fixed (get new folder) ≡ option_map fixed (get old folder)

one_alike : (old : ByName Replica) (folder : Folder) (before after : Replica) → get old folder ≡ Some before → Alike before after → AreAlike old (insert old folder after)
one_alike old folder before after is alike =
    each_name_after_insert (λ at found. option_map fixed found ≡ option_map fixed (get old at)) old folder after
    (ap (λ x. Some x) alike ∙ sym (ap (option_map fixed) is)) (λ other. refl)

folder_alike : (folder : Folder) (row : Replica → Row Replica) (kept : Bool) (old new : Peer) → ((before after : Replica) (answer : Answer) → row before after answer → Alike before after) → InFolder folder row kept old new → AreAlike old.replicas new.replicas
folder_alike folder row kept old new alike (before, after, answer, is, made, ends, same) =
    subst (λ (p : Peer). AreAlike old.replicas p.replicas) (sym same) (one_alike old.replicas folder before after is (alike before after answer made))

-- ---- over a link

-- the device is as it was but for its sessions and what it knows of others
abbrev ActsAlike : Peer → Acted → Type 0
ActsAlike old acted = AreAlike old.replicas acted.peer.replicas

session_alike : (other : Device) (sight : Sight) (old : Peer) (rest : Session → Row Acted) (acted : Acted) (answer : Answer) → SessionRow other sight old rest acted answer → ((session : Session) → rest session acted answer → ActsAlike old acted) → ActsAlike old acted
session_alike other sight old rest acted answer row more =
    at_answers (ActsAlike old) row (λ _. refl) (λ _ up. at_answers (ActsAlike old) up (λ _. refl) (λ _ has. more has.0 has.2))

begin_alike : (other : Device) (sight : Sight) (old : Peer) (acted : Acted) (answer : Answer) → BeginRow other sight old acted answer → ActsAlike old acted
begin_alike other sight old acted answer row =
    at_answers (ActsAlike old) row (λ _. refl) (λ _ up. at_answers (ActsAlike old) up (λ _. refl) (λ _ none. at_answers (ActsAlike old) none (λ _. refl) (λ _ made. at_becomes (ActsAlike old) made (λ _. refl))))

cursor_alike : (other : Device) (folder : Folder) (full : Bool) (session : Session) (cursor : Option Plan) (old : Peer) (acted : Acted) (answer : Answer) → CursorRow other folder full session cursor old acted answer → ActsAlike old acted
cursor_alike other folder full session None old acted answer row = at_becomes (ActsAlike old) row (λ _. refl)
cursor_alike other folder full session (Some cursor) old acted answer row =
    at_answers (ActsAlike old) row.2.2 (λ _. refl) (λ _ left. at_answers (ActsAlike old) left (λ _. refl) (λ _ made. at_becomes (ActsAlike old) made (λ _. refl)))

announce_alike : (other : Device) (folder : Folder) (sight : Sight) (old : Peer) (acted : Acted) (answer : Answer) → AnnounceRow other folder sight old acted answer → ActsAlike old acted
announce_alike other folder sight old acted answer row =
    session_alike other sight old (λ session. CursorRow other folder sight.full session (get session.cursors folder) old) acted answer row
    (λ session made. cursor_alike other folder sight.full session (get session.cursors folder) old acted answer made)

asking_alike : (other : Device) (folder : Folder) (name : FileName) (full : Bool) (session : Session) (old : Peer) (replica : Replica) (acted : Acted) (answer : Answer) → AskingRow other folder name full session old replica acted answer → ActsAlike old acted
asking_alike other folder name full session old replica acted answer row =
    at_answers (ActsAlike old) row (λ _. refl) (λ _ can. at_answers (ActsAlike old) can (λ _. refl) (λ _ asks. at_becomes (ActsAlike old) asks.2 (λ _. refl)))

ask_alike : (other : Device) (folder : Folder) (name : FileName) (sight : Sight) (old : Peer) (acted : Acted) (answer : Answer) → AskRow other folder name sight old acted answer → ActsAlike old acted
ask_alike other folder name sight old acted answer row =
    at_answers (ActsAlike old) row (λ _. refl) (λ _ up. at_answers (ActsAlike old) up (λ _. refl) (λ _ has. asking_alike other folder name sight.full has.0 old has.2.0 acted answer has.2.2))

-- ---- a delivery

renewed_alike : (other : Device) (one : Announced) (found : Option Replica) (replicas : ByName Replica) → get replicas one.folder ≡ found → AreAlike replicas (renewed other one found replicas)
renewed_alike other one None replicas is folder = refl
renewed_alike other one (Some replica) replicas is folder =
    one_alike replicas one.folder replica (with_view replica other (known_under one.index_id (view_of replica other))) is refl folder

all_renewed_alike : (other : Device) (named : List Announced) (replicas : ByName Replica) → AreAlike replicas (all_renewed other named replicas)
all_renewed_alike other [] replicas folder = refl
all_renewed_alike other (one ∷ more) replicas folder =
    let found = get replicas one.folder in
    all_renewed_alike other more (renewed other one found replicas) folder ∙ renewed_alike other one found replicas refl folder

view_alike : (other : Device) (folder : Folder) (view : Listing) (replica : Replica) (old : Peer) (acted : Acted) (answer : Answer) → get old.replicas folder ≡ Some replica → ViewRow other folder view replica old acted answer → ActsAlike old acted
view_alike other folder view replica old acted answer is row =
    at_answers (ActsAlike old) row (λ _. refl) (λ _ made. at_becomes (ActsAlike old) made (one_alike old.replicas folder replica _ is refl))

block_alike : (request : Request) (bytes : List ℕ) (pull : Option Pull) (replica : Replica) → Alike replica (with_block request bytes pull replica)
block_alike request bytes None replica = refl
block_alike request bytes (Some pull) replica = refl

received_alike : (request : Request) (bytes : List ℕ) (found : Option Replica) (peer : Peer) → get peer.replicas request.folder ≡ found → AreAlike peer.replicas (with_received request bytes found peer).replicas
received_alike request bytes None peer is folder = refl
received_alike request bytes (Some replica) peer is folder =
    one_alike peer.replicas request.folder replica (with_block request bytes (pull_at replica request.name) replica) is (block_alike request bytes (pull_at replica request.name) replica) folder

asked_alike : (other : Device) (session : Session) (response : Response) (asked : Option Request) (old : Peer) (acted : Acted) (answer : Answer) → AskedRow other session response asked old acted answer → ActsAlike old acted
asked_alike other session response None old acted answer row = at_becomes (ActsAlike old) row (λ _. refl)
asked_alike other session response (Some request) old acted answer (inl right) =
    at_becomes (ActsAlike old) right.1 (received_alike request response.bytes (get old.replicas request.folder) _ refl)
asked_alike other session response (Some request) old acted answer (inr wrong) = at_becomes (ActsAlike old) wrong.1 (λ _. refl)

message_alike : (other : Device) (failed : Option ℕ) (full : Bool) (session : Session) (message : Message) (old : Peer) (acted : Acted) (answer : Answer) → MessageRow other failed full session message old acted answer → ActsAlike old acted
message_alike other failed full session (messages.ClusterConfig named) old acted answer (inl good) = at_becomes (ActsAlike old) good.1 (all_renewed_alike other named old.replicas)
message_alike other failed full session (messages.ClusterConfig named) old acted answer (inr bad) = at_becomes (ActsAlike old) bad.1 (λ _. refl)
message_alike other failed full session (messages.Index folder batch) old acted answer (inl (named, (replica, is, row))) = view_alike other folder _ replica old acted answer is row
message_alike other failed full session (messages.Index folder batch) old acted answer (inr bad) = at_becomes (ActsAlike old) bad.1 (λ _. refl)
message_alike other failed full session (messages.IndexUpdate folder batch) old acted answer (inl (named, (replica, is, inl late))) = at_becomes (ActsAlike old) late.1 (λ _. refl)
message_alike other failed full session (messages.IndexUpdate folder batch) old acted answer (inl (named, (replica, is, inr new))) = view_alike other folder _ replica old acted answer is new.1
message_alike other failed full session (messages.IndexUpdate folder batch) old acted answer (inr bad) = at_becomes (ActsAlike old) bad.1 (λ _. refl)
message_alike other failed full session (messages.Request request) old acted answer (inl (named, (replica, is, row))) =
    at_answers (ActsAlike old) row (λ _. refl) (λ _ made. at_becomes (ActsAlike old) made.2 (λ _. refl))
message_alike other failed full session (messages.Request request) old acted answer (inr bad) = at_becomes (ActsAlike old) bad.1 (λ _. refl)
message_alike other failed full session (messages.Response response) old acted answer row = asked_alike other session response (asked_for response.id session.outstanding) old acted answer row

waiting_alike : (other : Device) (failed : Option ℕ) (full : Bool) (session : Session) (waiting : Option Message) (old : Peer) (acted : Acted) (answer : Answer) → WaitingRow other failed full session waiting old acted answer → ActsAlike old acted
waiting_alike other failed full session None old acted answer row = at_becomes (ActsAlike old) row (λ _. refl)
waiting_alike other failed full session (Some message) old acted answer row = message_alike other failed full session message old acted answer row

deliver_alike : (other : Device) (failed : Option ℕ) (sight : Sight) (old : Peer) (acted : Acted) (answer : Answer) → DeliverRow other failed sight old acted answer → ActsAlike old acted
deliver_alike other failed sight old acted answer row =
    session_alike other sight old (λ session. WaitingRow other failed sight.full session sight.waiting old) acted answer row
    (λ session made. waiting_alike other failed sight.full session sight.waiting old acted answer made)

traffic_alike : (row : Sight → Peer → Row Acted) (traffic : Option Traffic) (old new : Peer) → ((sight : Sight) (old : Peer) (acted : Acted) (answer : Answer) → row sight old acted answer → ActsAlike old acted) → ByTraffic row traffic old new → AreAlike old.replicas new.replicas
traffic_alike row None old new alike made = absurd made
traffic_alike row (Some traffic) old new alike (moved, made) = alike _ old _ (Done moved) made

-- ---- every event

restarted_alike : (old new : Peer) → new ≡ restarted old → AreAlike old.replicas new.replicas
restarted_alike old new same folder =
    ap (λ (p : Peer). option_map fixed (get p.replicas folder)) same
    ∙ ap (option_map fixed) (get-mapped nat_list_cmp_total without_pulls old.replicas folder)
    ∙ cases (get old.replicas folder)
  where
    cases : (found : Option Replica) → option_map fixed (option_map without_pulls found) ≡ option_map fixed found
    cases None = refl
    cases (Some replica) = refl

-- a reset gives each index another id, and keeps all else that is fixed
abbrev IsAnew : Step → Peer → Peer → Type 0
IsAnew step old new = (device : Device) × (id : ℕ) × (step ≡ Reset device id) × (new ≡ reset_to id old)

half_alike : (step : Step) (failed : Option ℕ) (kept : Bool) (traffic : Option Traffic) (old new : Peer) → PeerHalf step failed kept traffic old new → AreAlike old.replicas new.replicas ⊎ IsAnew step old new
half_alike (Edit device folder name node) failed kept traffic old new = λ half. inl (folder_alike folder (EditRow name node failed) kept old new (edit_alike name node failed) half)
half_alike (Remove device folder name) failed kept traffic old new = λ half. inl (folder_alike folder (RemoveRow name failed) kept old new (remove_alike name failed) half)
half_alike (Scan device folder name) failed kept traffic old new = λ half. inl (folder_alike folder (ScanRow device name failed) kept old new (scan_alike device name failed) half)
half_alike (Override device folder name) failed kept traffic old new = λ half. inl (folder_alike folder (OverrideRow device name) kept old new (override_alike device name) half)
half_alike (Revert device folder name) failed kept traffic old new = λ half. inl (folder_alike folder (RevertRow device name failed) kept old new (revert_alike device name failed) half)
half_alike (Connect one other) failed kept traffic old new = λ half. absurd half
half_alike (Lose one other) failed kept traffic old new = λ half. absurd half
half_alike (Begin device other) failed kept traffic old new = λ half. inl (traffic_alike (BeginRow other) traffic old new (begin_alike other) half)
half_alike (Deliver device other) failed kept traffic old new = λ half. inl (traffic_alike (DeliverRow other failed) traffic old new (deliver_alike other failed) half)
half_alike (Announce device other folder) failed kept traffic old new = λ half. inl (traffic_alike (AnnounceRow other folder) traffic old new (announce_alike other folder) half)
half_alike (StartPull device folder name) failed kept traffic old new = λ half. inl (folder_alike folder (StartPullRow device name) kept old new (start_pull_alike device name) half)
half_alike (Ask device other folder name) failed kept traffic old new = λ half. inl (traffic_alike (AskRow other folder name) traffic old new (ask_alike other folder name) half)
half_alike (Finish device folder name) failed kept traffic old new = λ half. inl (folder_alike folder (FinishRow device name failed) kept old new (finish_alike device name failed) half)
half_alike (Restart device) failed kept traffic old new = λ half. inl (restarted_alike old new half)
half_alike (Reset device id) failed kept traffic old new = λ half. inr (device, id, refl, half.1)

-- what an event keeps of each folder, where what its step keeps is so
step_keeps : {X : Type 0} (read : Replica → X) (device : Device) (one : Logged) (old new : Peer) →
    (touches_device (guards_of one.step) device ≡ true → PeerHalf one.step one.failed one.kept one.traffic old new → Keeps read old new) → PeerStep device one old new → Keeps read old new
step_keeps read device one old new keeps = cases (touches_device (guards_of one.step) device) refl
  where
    Half : Type 0
    Half = SaysNoMore one.step one.failed one.kept one.traffic × PeerHalf one.step one.failed one.kept one.traffic old new

    cases : (b : Bool) → touches_device (guards_of one.step) device ≡ b → OnlyIf b Half old new → Keeps read old new
    cases true here half = keeps here half.1
    cases false apart same = λ folder. ap (λ (p : Peer). option_map read (get p.replicas folder)) same

-- what is read of what is fixed is fixed
kept_of : {X : Type 0} (read : Fixed → X) (old new : Peer) → AreAlike old.replicas new.replicas → Keeps (λ replica. read (fixed replica)) old new
kept_of read old new alike folder = through (get new.replicas folder) ∙ ap (option_map read) (alike folder) ∙ sym (through (get old.replicas folder))
  where
    through : (found : Option Replica) → option_map (λ replica. read (fixed replica)) found ≡ option_map read (option_map fixed found)
    through None = refl
    through (Some replica) = refl

anew_shares : (id : ℕ) (old new : Peer) → new ≡ reset_to id old → Keeps shared_as old new
anew_shares id old new same folder =
    ap (λ (p : Peer). option_map shared_as (get p.replicas folder)) same
    ∙ ap (option_map shared_as) (get-mapped nat_list_cmp_total (anew_under id) old.replicas folder)
    ∙ cases (get old.replicas folder)
  where
    cases : (found : Option Replica) → option_map shared_as (option_map (anew_under id) found) ≡ option_map shared_as found
    cases None = refl
    cases (Some replica) = refl

pub step_keeps_sharing : (device : Device) (one : Logged) (old new : Peer) → PeerStep device one old new → Keeps shared_as old new
step_keeps_sharing device one old new =
    step_keeps shared_as device one old new
    (λ here half.
    ⊎_elim
    (λ alike. kept_of (λ f. f.0) old new alike)
    (λ anew. anew_shares anew.1 old new anew.3)
    (half_alike one.step one.failed one.kept one.traffic old new half))

-- a device that is touched by a reset is the one that is reset
reset_here : (device at : Device) (id : ℕ) (step : Step) → step ≡ Reset at id → touches_device (guards_of step) device ≡ true → Contains (reset_by step) device
reset_here device at id step is here =
    let touched : (device == at) ≡ true = sym (ap (λ (s : Step). touches_device (guards_of s) device) is) ∙ here in
    subst (λ (s : Step). Contains (reset_by s) device) (sym is)
    (subst (λ (d : Device). Contains (d ∷ []) device) (eqb-true device at touched) (Contains-first device []))

step_keeps_ids : (device : Device) (one : Logged) (old new : Peer) → ¬ Contains (reset_by one.step) device → PeerStep device one old new → Keeps index_id old new
step_keeps_ids device one old new unreset =
    step_keeps index_id device one old new
    (λ here half.
    ⊎_elim
    (λ alike. kept_of (λ f. f.1) old new alike)
    (λ anew. absurd (unreset (reset_here device anew.0 anew.1 one.step anew.2 here)))
    (half_alike one.step one.failed one.kept one.traffic old new half))

pub replays_keep_sharing_lem : ReplaysKeepSharing
replays_keep_sharing_lem device old new [] same folder = ap (λ (p : Peer). option_map shared_as (get p.replicas folder)) same
replays_keep_sharing_lem device old new (one ∷ more) (next, step, rest) folder =
    replays_keep_sharing_lem device next new more rest folder ∙ step_keeps_sharing device one old next step folder

pub replays_keep_ids_lem : ReplaysKeepIds
replays_keep_ids_lem device old new [] same unreset folder = ap (λ (p : Peer). option_map index_id (get p.replicas folder)) same
replays_keep_ids_lem device old new (one ∷ more) (next, step, rest) unreset folder =
    replays_keep_ids_lem device next new more rest (λ later. unreset (Contains-append_right (reset_by one.step) (reset_in_log more) device later)) folder
    ∙ step_keeps_ids device one old next (λ now. unreset (Contains-append_left (reset_by one.step) (reset_in_log more) device now)) step folder
