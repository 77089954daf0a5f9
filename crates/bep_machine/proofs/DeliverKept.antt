-- A message that is taken keeps a device sound.
use Rattle.std.proofs.Common.{◌≡◌, ◌≤◌, ℕ, Option, Some, None, false, refl, sym, subst, inl, inr, arith}
use Rattle.std.specs.FinMap.{get, len}
use Rattle.bep_index.specs.Listing.{Listing}
use Rattle.bep_index.specs.View.{IsView, replaced, amended}
use Rattle.bep_index.specs.declared.limits.TheConstants.{MAX_NAMES}
use Rattle.bep_model.specs.Tables.{Device, Folder}
use Rattle.bep_machine.specs.declared.message.Message.{Message}
use Rattle.bep_machine.specs.declared.message.Message.TheVariants as messages
use Rattle.bep_machine.specs.declared.message.Request.{Request}
use Rattle.bep_machine.specs.Answer.{Answer}
use Rattle.bep_machine.specs.Replica.{Replica, view_of, with_view}
use Rattle.bep_machine.specs.Link.{Sight}
use Rattle.bep_machine.specs.Peer.{Session, Peer, Acted, with_replica}
use Rattle.bep_machine.specs.Exchange.{SharesWith, IsNamed, ViewRow, RequestRow, MessageRow, WaitingRow, DeliverRow, configured_by}
use Rattle.bep_machine.specs.Cluster.{Config}
use Rattle.bep_index.specs.Good.{AreGood}
use Rattle.bep_machine.specs.Sound.{IsSoundMessage, IsSoundSession, IsSoundPeer}
use Rattle.bep_machine.proofs.LowerLaws.{LowerLaws}
use Rattle.bep_machine.proofs.FoundAfter.{value_of}
use Rattle.bep_machine.proofs.LinkKept.{one_sent}
use Rattle.bep_machine.proofs.PeerKept.{sound_with_replica}
use Rattle.bep_machine.proofs.ActedKept.{SoundActed, KeepsPeer, stayed, took, gave_up, in_session}
use Rattle.bep_machine.proofs.ViewKept.{is_other_of, all_are_good, only_these_are_good, view_is_sound, with_view_changes}
use Rattle.bep_machine.proofs.ConfigKept.{configured_is_sound}
use Rattle.bep_machine.proofs.ReceivedKept.{response_keeps}

named_is_shared : (other : Device) (peer : Peer) (session : Session) (folder : Folder) → IsSoundSession other peer session → IsNamed session folder → SharesWith other peer folder
named_is_shared other peer session folder one named = let cursor = value_of (get session.cursors folder) named in one.named folder cursor.0 cursor.1

module _ (laws : LowerLaws) (config : Config) (device other : Device) (sight : Sight) (session : Session) (old : Peer) (acted : Acted) (answer : Answer)
    (sound : IsSoundPeer config device old) (one : IsSoundSession other old session) (up : ¬ (sight.up ≡ false)) where
  view_keeps : (folder : Folder) (view : Listing) (replica : Replica) → get old.replicas folder ≡ Some replica → SharesWith other old folder
      → (len view.records ≤ MAX_NAMES → IsView view) → AreGood view.records → ViewRow other folder view replica old acted answer → SoundActed config device sight acted
  view_keeps folder view replica is shares is_view good (inl full) = stayed config device sight old acted sound full.1.0
  view_keeps folder view replica is shares is_view good (inr (room, made)) =
      took config device sight (with_replica old folder (with_view replica other view)) acted
      (sound_with_replica config device old folder replica (with_view replica other view) sound is
      (with_view_changes device other replica view (sound.replicas folder replica is) (is_other_of other old folder replica shares is) (is_view (omega (arith, room))) good))
      made.0

  request_keeps : (request : Request) (failed : Option ℕ) (replica : Replica) → RequestRow request failed sight.full replica old acted answer → SoundActed config device sight acted
  request_keeps request failed replica (inl full) = stayed config device sight old acted sound full.1.0
  request_keeps request failed replica (inr (room, (response, answers, made))) =
      subst (λ a. SoundActed config device sight a) (sym made.0)
      (record { peer = sound; sends = λ message same. one_sent sight (messages.Response response) message (record { sound = tt; room = room; up = up }) same })

  message_keeps : (failed : Option ℕ) (message : Message) → IsSoundMessage message → MessageRow other failed sight.full session message old acted answer → SoundActed config device sight acted
  message_keeps failed (messages.ClusterConfig named) good (inl (is, made)) =
      took config device sight (configured_by other session named old) acted (configured_is_sound laws.cleared_is_view config device other session named old sound one is.shared) made.0
  message_keeps failed (messages.ClusterConfig named) good (inr (bad, made)) = gave_up config device sight old acted sound made.0
  message_keeps failed (messages.Index folder batch) good (inl (named, (replica, is, row))) =
      view_keeps folder (replaced (view_of replica other) batch) replica is (named_is_shared other old session folder one named)
      (λ few. laws.replaced_is_view (view_of replica other) batch good.0) (only_these_are_good laws.batch_found batch good.1) row
  message_keeps failed (messages.Index folder batch) good (inr (bad, made)) = gave_up config device sight old acted sound made.0
  message_keeps failed (messages.IndexUpdate folder batch) good (inl (named, (replica, is, inl (before, made)))) = gave_up config device sight old acted sound made.0
  message_keeps failed (messages.IndexUpdate folder batch) good (inl (named, (replica, is, inr (later, row)))) =
      let had = view_is_sound laws.cleared_is_view device other replica (sound.replicas folder replica is) in
      view_keeps folder (amended (view_of replica other) batch) replica is (named_is_shared other old session folder one named)
      (λ few. laws.amended_is_view (view_of replica other) batch had.0 good.0 later few) (all_are_good laws.batch_found (view_of replica other).records batch had.1 good.1) row
  message_keeps failed (messages.IndexUpdate folder batch) good (inr (bad, made)) = gave_up config device sight old acted sound made.0
  message_keeps failed (messages.Request request) good (inl (named, (replica, is, row))) = request_keeps request failed replica row
  message_keeps failed (messages.Request request) good (inr (bad, made)) = gave_up config device sight old acted sound made.0
  message_keeps failed (messages.Response response) good row = response_keeps config device other sight session old acted answer sound one response row

  waiting_keeps : (failed : Option ℕ) (waiting : Option Message) → ((message : Message) → waiting ≡ Some message → IsSoundMessage message) → WaitingRow other failed sight.full session waiting old acted answer → SoundActed config device sight acted
  waiting_keeps failed None waits made = stayed config device sight old acted sound made.0
  waiting_keeps failed (Some message) waits row = message_keeps failed message (waits message refl) row

pub deliver_keeps : LowerLaws → (config : Config) (device other : Device) (failed : Option ℕ) → KeepsPeer config device (DeliverRow other failed)
deliver_keeps laws config device other failed sight old acted answer sound waits row =
    in_session config device sight other old (λ session. WaitingRow other failed sight.full session sight.waiting old) acted answer sound
    (λ session one up made. waiting_keeps laws config device other sight session old acted answer sound one up failed sight.waiting waits made)
    row
