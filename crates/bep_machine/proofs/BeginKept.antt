-- A session that begins, and a request that is sent in one, keep a device sound.
use Rattle.std.proofs.Common.{◌≡◌, ◌<◌, ◌+◌, ◌++◌, ℕ, [], ◌∷◌, length, false, refl, inl, inr, arith, length-append}
use Rattle.std.specs.Ordering.{nat_cmp}
use Rattle.std.specs.Cmp.Lexicographic.{slice_cmp}
use Rattle.bep_facts.specs.Maps.{nothing_in_empty}
use Rattle.bep_model.specs.Tables.{Device, Folder, FileName}
use Rattle.bep_machine.specs.declared.message.Message.TheVariants as messages
use Rattle.bep_machine.specs.declared.message.Request.{Request}
use Rattle.bep_machine.specs.declared.limits.TheConstants.{MAX_OUTSTANDING}
use Rattle.bep_machine.specs.Answer.{Answer}
use Rattle.bep_machine.specs.Replica.{Replica}
use Rattle.bep_machine.specs.Link.{Sight}
use Rattle.bep_machine.specs.Peer.{Session, Peer, Acted, new_session, with_session, config_for}
use Rattle.bep_machine.specs.Exchange.{ReplicaRow, BeginRow, AskingRow, AskRow, request_for}
use Rattle.bep_machine.specs.Cluster.{Config}
use Rattle.bep_machine.specs.Sound.{IsSoundSession, IsSoundPeer}
use Rattle.bep_machine.proofs.PeerKept.{sound_with_session}
use Rattle.bep_machine.proofs.ActedKept.{SoundActed, KeepsPeer, stayed, sent, in_session}

new_is_sound : (other : Device) (peer : Peer) (epoch : ℕ) → IsSoundSession other peer (new_session epoch)
new_is_sound other peer epoch = record {
  named = λ folder cursor is. nothing_in_empty (slice_cmp nat_cmp) folder cursor is;
  unnamed = λ no. refl;
  few = omega arith;
}

pub begin_keeps : (config : Config) (device other : Device) → KeepsPeer config device (BeginRow other)
begin_keeps config device other sight old acted answer sound waits (inl down) = stayed config device sight old acted sound down.1.0
begin_keeps config device other sight old acted answer sound waits (inr (up, inl has)) = stayed config device sight old acted sound has.1.0
begin_keeps config device other sight old acted answer sound waits (inr (up, inr (none, inl full))) = stayed config device sight old acted sound full.1.0
begin_keeps config device other sight old acted answer sound waits (inr (up, inr (none, inr (room, made)))) =
    sent config device sight (with_session old other (new_session sight.epoch)) (messages.ClusterConfig (config_for other old)) acted
    (sound_with_session config device other old (new_session sight.epoch) sound (new_is_sound other old sight.epoch))
    (record { sound = tt; room = room; up = up })
    made.0

abbrev asking : Session → Request → Session
asking session request = record session { outstanding = session.outstanding ++ request ∷ []; next = session.next + 1 }

asking_is_sound : (other : Device) (peer : Peer) (session : Session) (request : Request) → length session.outstanding < MAX_OUTSTANDING → IsSoundSession other peer session → IsSoundSession other peer (asking session request)
asking_is_sound other peer session request few sound = record {
  named = sound.named;
  unnamed = sound.unnamed;
  few = let long = length-append session.outstanding (request ∷ []) in omega arith;
}

asking_keeps : (config : Config) (device other : Device) (folder : Folder) (name : FileName) (sight : Sight) (session : Session) (old : Peer) (replica : Replica) (acted : Acted) (answer : Answer)
    → IsSoundPeer config device old → IsSoundSession other old session → ¬ (sight.up ≡ false) → AskingRow other folder name sight.full session old replica acted answer → SoundActed config device sight acted
asking_keeps config device other folder name sight session old replica acted answer sound one up (inl nothing) = stayed config device sight old acted sound nothing.1.0
asking_keeps config device other folder name sight session old replica acted answer sound one up (inr (can, inl full)) = stayed config device sight old acted sound full.1.0
asking_keeps config device other folder name sight session old replica acted answer sound one up (inr (can, inr (room, made))) =
    let request = request_for session folder name made.0 in
    sent config device sight (with_session old other (asking session request)) (messages.Request request) acted
    (sound_with_session config device other old (asking session request) sound (asking_is_sound other old session request made.1.few one))
    (record { sound = tt; room = room; up = up })
    made.2.0

pub ask_keeps : (config : Config) (device other : Device) (folder : Folder) (name : FileName) → KeepsPeer config device (AskRow other folder name)
ask_keeps config device other folder name sight old acted answer sound waits row =
    in_session config device sight other old (λ session. ReplicaRow folder old (AskingRow other folder name sight.full session old)) acted answer sound
    (λ session one up made. asking_keeps config device other folder name sight session old made.0 acted answer sound one up made.2)
    row
