-- What a step does to one device and to one link, what is logged of it there, and what the events of a log make of a device
-- or a link (this project's profile).
use Rattle.std.specs.Prelude.{◌≡◌, ◌≢◌, ◌⊎◌, ◌==◌, ◌&&◌, ◌||◌, nat_lt, ℕ, Bool, true, false, ⊤, List, [], ◌∷◌, ◌++◌, Option, Some, None, if◌then◌else◌}
use Rattle.std.specs.List.{filter}
use Rattle.std.specs.FinMap.{get}
use Rattle.bep_model.specs.Tables.{Device, Folder}
use Rattle.bep_machine.specs.declared.logged.Exchanged.{Exchanged}
use Rattle.bep_machine.specs.declared.logged.Exchanged.TheVariants.{Sent, Took, Broke}
use Rattle.bep_machine.specs.declared.logged.Logged.{Logged}
use Rattle.bep_machine.specs.declared.logged.Traffic.{Traffic}
use Rattle.bep_machine.specs.declared.message.Message.{Message}
use Rattle.bep_machine.specs.declared.moved.Moved.{Moved}
use Rattle.bep_machine.specs.declared.moved.Moved.TheVariants.{Changed}
use Rattle.bep_machine.specs.declared.step.Step.{Step}
use Rattle.bep_machine.specs.declared.step.Step.TheVariants.{Edit, Remove, Scan, Override, Revert, Connect, Lose, Begin, Deliver, Announce, StartPull, Ask, Finish, Restart, Reset}
use Rattle.bep_machine.specs.Answer.{Answer, Done, Refused, OutOfMemory, Row}
use Rattle.bep_machine.specs.Replica.{Replica}
use Rattle.bep_machine.specs.Local.{EditRow, RemoveRow, ScanRow, OverrideRow, RevertRow}
use Rattle.bep_machine.specs.Pull.{StartPullRow, FinishRow}
use Rattle.bep_machine.specs.Link.{Link, End, Sight, Deed, lost, end_of, sight_of, sending, losing, after_deed}
use Rattle.bep_machine.specs.Peer.{Peer, Acted, with_replica}
use Rattle.bep_machine.specs.Exchange.{BeginRow, DeliverRow, AnnounceRow, AskRow}
use Rattle.bep_machine.specs.Steps.{ConnectRow, LoseRow, restarted, HasIdFrom, reset_to, reset_by, Event}

-- ---- what a step touches

-- the objects that are held while a step is made
pub data Guards : Type 0 where
  OfDevice : Device → Guards
  -- the device, and its link with the other one
  OfDeviceAndLink : Device → Device → Guards
  OfLink : Device → Device → Guards
  OfDeviceAndLinks : Device → Guards

abbrev pub guards_of : Step → Guards
guards_of (Edit device folder name node) = OfDevice device
guards_of (Remove device folder name) = OfDevice device
guards_of (Scan device folder name) = OfDevice device
guards_of (Override device folder name) = OfDevice device
guards_of (Revert device folder name) = OfDevice device
guards_of (Connect one other) = OfLink one other
guards_of (Lose one other) = OfLink one other
guards_of (Begin device other) = OfDeviceAndLink device other
guards_of (Deliver device other) = OfDeviceAndLink device other
guards_of (Announce device other folder) = OfDeviceAndLink device other
guards_of (StartPull device folder name) = OfDevice device
guards_of (Ask device other folder name) = OfDeviceAndLink device other
guards_of (Finish device folder name) = OfDevice device
guards_of (Restart device) = OfDeviceAndLinks device
guards_of (Reset device id) = OfDeviceAndLinks device

-- whether the device is among them
abbrev pub touches_device : Guards → Device → Bool
touches_device (OfDevice device) one = one == device
touches_device (OfDeviceAndLink device other) one = one == device
touches_device (OfLink lower upper) one = false
touches_device (OfDeviceAndLinks device) one = one == device

-- whether the link between two devices is, the smaller first
abbrev pub touches_link : Guards → Device → Device → Bool
touches_link (OfDevice device) a b = false
touches_link (OfDeviceAndLink device other) a b =
    if nat_lt device other then (a == device) && (b == other) else (a == other) && (b == device)
touches_link (OfLink lower upper) a b = (a == lower) && (b == upper)
touches_link (OfDeviceAndLinks device) a b = (a == device) || (b == device)

-- ---- what is logged of a step

-- whether what was taken was answered: only then a delivery calls a store
abbrev pub was_answered : Exchanged → Bool
was_answered (Took message (Some answer)) = true
was_answered done = false

abbrev pub has_answered : Option Traffic → Bool
has_answered None = false
has_answered (Some traffic) = was_answered traffic.done

-- A step that is logged was done, or it kept a conflict copy and then failed: its answer tells which.
abbrev pub kept_told : Answer → Bool
kept_told (Done moved) = false
kept_told (Refused why) = true
kept_told OutOfMemory = true

-- the number of the call that failed, if that call was made and has this number
abbrev pub only_call : Bool → ℕ → Option ℕ → Option ℕ
only_call true call (Some failed) = if failed == call then Some failed else None
only_call true call None = None
only_call false call failed = None

-- The call of the store that failed, as the step's event tells it: the read for an answer, or the last call of a pull's end
-- that has kept a copy. Where any other call that it makes fails, a step is refused and isn't logged.
abbrev pub failed_told : Step → Bool → Option Traffic → Option ℕ → Option ℕ
failed_told (Edit device folder name node) kept traffic failed = None
failed_told (Remove device folder name) kept traffic failed = None
failed_told (Scan device folder name) kept traffic failed = None
failed_told (Override device folder name) kept traffic failed = None
failed_told (Revert device folder name) kept traffic failed = None
failed_told (Connect one other) kept traffic failed = None
failed_told (Lose one other) kept traffic failed = None
failed_told (Begin device other) kept traffic failed = None
failed_told (Deliver device other) kept traffic failed = only_call (has_answered traffic) 1 failed
failed_told (Announce device other folder) kept traffic failed = None
failed_told (StartPull device folder name) kept traffic failed = None
failed_told (Ask device other folder name) kept traffic failed = None
failed_told (Finish device folder name) kept traffic failed = only_call kept 4 failed
failed_told (Restart device) kept traffic failed = None
failed_told (Reset device id) kept traffic failed = None

-- what is logged of a step that was made, and of what it did over a link
abbrev pub logged_of : Event → Option Traffic → Logged
logged_of made traffic = record {
  step = made.step;
  failed = failed_told made.step (kept_told made.answer) traffic made.failed;
  kept = kept_told made.answer;
  traffic = traffic;
}

-- no call failed, or this one, if it was made
abbrev pub MayFail : Bool → ℕ → Option ℕ → Type 0
MayFail made call failed = (failed ≡ None) ⊎ ((made ≡ true) × (failed ≡ Some call))

-- An event says no more than its step has to say. A call that failed is one that the step makes, in a step that is logged.
-- Only the end of a pull keeps a copy and then fails. Only a step over a link tells of traffic.
abbrev pub SaysNoMore : Step → Option ℕ → Bool → Option Traffic → Type 0
SaysNoMore (Edit device folder name node) failed kept traffic = (failed ≡ None) × (kept ≡ false) × (traffic ≡ None)
SaysNoMore (Remove device folder name) failed kept traffic = (failed ≡ None) × (kept ≡ false) × (traffic ≡ None)
SaysNoMore (Scan device folder name) failed kept traffic = (failed ≡ None) × (kept ≡ false) × (traffic ≡ None)
SaysNoMore (Override device folder name) failed kept traffic = (failed ≡ None) × (kept ≡ false) × (traffic ≡ None)
SaysNoMore (Revert device folder name) failed kept traffic = (failed ≡ None) × (kept ≡ false) × (traffic ≡ None)
SaysNoMore (Connect one other) failed kept traffic = (failed ≡ None) × (kept ≡ false) × (traffic ≡ None)
SaysNoMore (Lose one other) failed kept traffic = (failed ≡ None) × (kept ≡ false) × (traffic ≡ None)
SaysNoMore (Begin device other) failed kept traffic = (failed ≡ None) × (kept ≡ false)
SaysNoMore (Deliver device other) failed kept traffic = MayFail (has_answered traffic) 1 failed × (kept ≡ false)
SaysNoMore (Announce device other folder) failed kept traffic = (failed ≡ None) × (kept ≡ false)
SaysNoMore (StartPull device folder name) failed kept traffic = (failed ≡ None) × (kept ≡ false) × (traffic ≡ None)
SaysNoMore (Ask device other folder name) failed kept traffic = (failed ≡ None) × (kept ≡ false)
SaysNoMore (Finish device folder name) failed kept traffic = MayFail kept 4 failed × (traffic ≡ None)
SaysNoMore (Restart device) failed kept traffic = (failed ≡ None) × (kept ≡ false) × (traffic ≡ None)
SaysNoMore (Reset device id) failed kept traffic = (failed ≡ None) × (kept ≡ false) × (traffic ≡ None)

-- what was done to the link
abbrev pub deed_told : Exchanged → Deed
deed_told (Sent message) = sending message
deed_told (Took message answer) = record { takes = true; sends = answer; loses = false }
deed_told (Broke message) = losing

-- what the device saw of the link, which had room for what was sent
abbrev pub waiting_told : Exchanged → Option Message
waiting_told (Sent message) = None
waiting_told (Took message answer) = Some message
waiting_told (Broke message) = Some message

abbrev pub sight_told : Traffic → Sight
sight_told traffic = record { up = true; epoch = traffic.epoch; waiting = waiting_told traffic.done; full = false }

-- ---- the half of a device

abbrev pub IsDone : Answer → Type 0
IsDone (Done moved) = ⊤
IsDone answer = ⊥

-- a step that was done; or one that failed, and had changed something before
abbrev pub Ends : Bool → Answer → Replica → Replica → Type 0
Ends false answer before after = IsDone answer
Ends true answer before after = (¬ IsDone answer) × (after ≢ before)

-- a replica makes a row, and ends so
abbrev pub InFolder : Folder → (Replica → Row Replica) → Bool → Peer → Peer → Type 0
InFolder folder row kept old new =
    (before after : Replica) × (answer : Answer) × (get old.replicas folder ≡ Some before) × row before after answer ×
    Ends kept answer before after × (new ≡ with_replica old folder after)

-- the device makes a row at the sight of a link that the event tells of, and does to it what the event says
abbrev pub ByTraffic : (Sight → Peer → Row Acted) → Option Traffic → Peer → Peer → Type 0
ByTraffic row None old new = ⊥
ByTraffic row (Some traffic) old new =
    (moved : Moved) × row (sight_told traffic) old (record { peer = new; deed = deed_told traffic.done }) (Done moved)

-- what the step does to the device that it names first
abbrev pub PeerHalf : Step → Option ℕ → Bool → Option Traffic → Peer → Peer → Type 0
PeerHalf (Edit device folder name node) failed kept traffic = InFolder folder (EditRow name node failed) kept
PeerHalf (Remove device folder name) failed kept traffic = InFolder folder (RemoveRow name failed) kept
PeerHalf (Scan device folder name) failed kept traffic = InFolder folder (ScanRow device name failed) kept
PeerHalf (Override device folder name) failed kept traffic = InFolder folder (OverrideRow device name) kept
PeerHalf (Revert device folder name) failed kept traffic = InFolder folder (RevertRow device name failed) kept
PeerHalf (Connect one other) failed kept traffic = λ old new. ⊥
PeerHalf (Lose one other) failed kept traffic = λ old new. ⊥
PeerHalf (Begin device other) failed kept traffic = ByTraffic (BeginRow other) traffic
PeerHalf (Deliver device other) failed kept traffic = ByTraffic (DeliverRow other failed) traffic
PeerHalf (Announce device other folder) failed kept traffic = ByTraffic (AnnounceRow other folder) traffic
PeerHalf (StartPull device folder name) failed kept traffic = InFolder folder (StartPullRow device name) kept
PeerHalf (Ask device other folder name) failed kept traffic = ByTraffic (AskRow other folder name) traffic
PeerHalf (Finish device folder name) failed kept traffic = InFolder folder (FinishRow device name failed) kept
PeerHalf (Restart device) failed kept traffic = λ old new. new ≡ restarted old
PeerHalf (Reset device id) failed kept traffic = λ old new. (¬ HasIdFrom id old) × (new ≡ reset_to id old)

-- ---- the half of a link

-- what was taken is what waited, and there is room for what is sent
abbrev pub IsSeen : Exchanged → Sight → Type 0
IsSeen (Sent message) sight = sight.full ≡ false
IsSeen (Took message None) sight = sight.waiting ≡ Some message
IsSeen (Took message (Some answer)) sight = (sight.waiting ≡ Some message) × (sight.full ≡ false)
IsSeen (Broke message) sight = sight.waiting ≡ Some message

-- the link is up in that epoch, and carries what the device at this end did
abbrev pub Carries : End → Option Traffic → Link → Link → Type 0
Carries end None old new = ⊥
Carries end (Some traffic) old new =
    (old.up ≡ true) × (old.epoch ≡ traffic.epoch) × IsSeen traffic.done (sight_of end old) ×
    (new ≡ after_deed end (deed_told traffic.done) old)

-- what the step does to a link that it touches
abbrev pub LinkHalf : Step → Option Traffic → Link → Link → Type 0
LinkHalf (Edit device folder name node) traffic = λ old new. ⊥
LinkHalf (Remove device folder name) traffic = λ old new. ⊥
LinkHalf (Scan device folder name) traffic = λ old new. ⊥
LinkHalf (Override device folder name) traffic = λ old new. ⊥
LinkHalf (Revert device folder name) traffic = λ old new. ⊥
LinkHalf (Connect one other) traffic = λ old new. ConnectRow old new (Done Changed)
LinkHalf (Lose one other) traffic = λ old new. LoseRow old new (Done Changed)
LinkHalf (Begin device other) traffic = Carries (end_of device other) traffic
LinkHalf (Deliver device other) traffic = Carries (end_of device other) traffic
LinkHalf (Announce device other folder) traffic = Carries (end_of device other) traffic
LinkHalf (StartPull device folder name) traffic = λ old new. ⊥
LinkHalf (Ask device other folder name) traffic = Carries (end_of device other) traffic
LinkHalf (Finish device folder name) traffic = λ old new. ⊥
LinkHalf (Restart device) traffic = λ old new. new ≡ lost old
LinkHalf (Reset device id) traffic = λ old new. new ≡ lost old

-- ---- replay

-- an object that is touched makes its half, and any other stays
abbrev pub OnlyIf : {S : Type 0} → Bool → Type 0 → S → S → Type 0
OnlyIf true half old new = half
OnlyIf false half old new = new ≡ old

-- what an event makes of a device, and of a link
abbrev pub PeerStep : Device → Logged → Peer → Peer → Type 0
PeerStep device event old new =
    OnlyIf (touches_device (guards_of event.step) device)
    (SaysNoMore event.step event.failed event.kept event.traffic × PeerHalf event.step event.failed event.kept event.traffic old new) old new

abbrev pub LinkStep : Device → Device → Logged → Link → Link → Type 0
LinkStep lower upper event old new =
    OnlyIf (touches_link (guards_of event.step) lower upper)
    (SaysNoMore event.step event.failed event.kept event.traffic × LinkHalf event.step event.traffic old new) old new

-- the events of a log, one after the other, lead from one state of an object to another
abbrev pub Replays : {S : Type 0} → (Logged → S → S → Type 0) → S → List Logged → S → Type 0
Replays step old [] new = new ≡ old
Replays {S} step old (event ∷ more) new = (next : S) × step event old next × Replays step next more new

abbrev pub PeerReplays : Device → Peer → List Logged → Peer → Type 0
PeerReplays device = Replays (PeerStep device)

abbrev pub LinkReplays : Device → Device → Link → List Logged → Link → Type 0
LinkReplays lower upper = Replays (LinkStep lower upper)

-- those events of a log that touch a device, or a link
abbrev pub events_of_device : Device → List Logged → List Logged
events_of_device device logged = filter (λ event. touches_device (guards_of event.step) device) logged

abbrev pub events_of_link : Device → Device → List Logged → List Logged
events_of_link lower upper logged = filter (λ event. touches_link (guards_of event.step) lower upper) logged

-- the devices of the resets in a log
abbrev pub reset_in_log : List Logged → List Device
reset_in_log [] = []
reset_in_log (event ∷ more) = reset_by event.step ++ reset_in_log more
