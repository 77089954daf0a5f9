-- Records that are announced keep a device sound.
use Rattle.std.proofs.Common.{◌≡◌, List, Option, Some, None, false, refl, sym, ◌∙◌, ap, inl, inr}
use Rattle.std.specs.Ordering.{nat_cmp}
use Rattle.std.specs.Cmp.Lexicographic.{slice_cmp}
use Rattle.std.specs.FinMap.{get, insert}
use Rattle.bep_facts.specs.Maps.{nothing_in_empty}
use Rattle.bep_map.specs.NameMap.{ByName}
use Rattle.bep_record.specs.declared.entry.Entry.{Entry}
use Rattle.bep_index.specs.declared.send.Plan.{Plan}
use Rattle.bep_index.specs.declared.send.Plan.TheVariants.{Full, Above}
use Rattle.bep_index.specs.Batch.{IsBatch, last_sequence}
use Rattle.bep_model.specs.Tables.{Device, Folder}
use Rattle.bep_machine.specs.Answer.{Answer}
use Rattle.bep_machine.specs.Replica.{Replica}
use Rattle.bep_machine.specs.Link.{Sight}
use Rattle.bep_machine.specs.Peer.{Session, Peer, Acted, with_session}
use Rattle.bep_machine.specs.Exchange.{SharesWith, sent_up_to, index_message, SendingRow, CursorRow, AnnounceRow}
use Rattle.bep_machine.specs.Cluster.{Config}
use Rattle.bep_index.specs.Good.{AllGood}
use Rattle.bep_machine.specs.Sound.{IsSoundMessage, IsSoundSession, IsSoundPeer}
use Rattle.bep_machine.proofs.SoundMaps.{each_after_insert}
use Rattle.bep_machine.proofs.PeerKept.{sound_with_session}
use Rattle.bep_machine.proofs.ActedKept.{SoundActed, KeepsPeer, stayed, sent, in_session}
use Rattle.bep_machine.proofs.BatchSent.{batch_after, records_are_good}

-- a cursor of a folder moves
moved_is_sound : (other : Device) (peer : Peer) (session : Session) (folder : Folder) (cursor next : Plan) → get session.cursors folder ≡ Some cursor → IsSoundSession other peer session
    → IsSoundSession other peer (record session { cursors = insert session.cursors folder next })
moved_is_sound other peer session folder cursor next is sound = record {
  named = each_after_insert (λ name plan. SharesWith other peer name) session.cursors folder sound.named next (sound.named folder cursor is);
  unnamed = λ no. nothing_in_empty (slice_cmp nat_cmp) folder cursor (sym (ap (λ (cursors : ByName Plan). get cursors folder) (sound.unnamed no)) ∙ is);
  few = sound.few;
}

message_is_sound : (cursor : Plan) (folder : Folder) (batch : List Entry) → IsBatch batch → AllGood batch → IsSoundMessage (index_message cursor folder batch)
message_is_sound Full folder batch is good = (is, good)
message_is_sound (Above sequence) folder batch is good = (is, good)

module _ (config : Config) (device other : Device) (folder : Folder) (sight : Sight) (session : Session) (old : Peer) (acted : Acted) (answer : Answer)
    (sound : IsSoundPeer config device old) (one : IsSoundSession other old session) (up : ¬ (sight.up ≡ false)) where
  sending_keeps : (cursor : Plan) (replica : Replica) → get session.cursors folder ≡ Some cursor → get old.replicas folder ≡ Some replica
      → SendingRow other folder sight.full session cursor old replica acted answer → SoundActed config device sight acted
  sending_keeps cursor replica at is (batch, after, inl all) = stayed config device sight old acted sound all.1.0
  sending_keeps cursor replica at is (batch, after, inr (some, inl full)) = stayed config device sight old acted sound full.1.0
  sending_keeps cursor replica at is (batch, after, inr (some, inr (room, made))) =
      sent config device sight (with_session old other (record session { cursors = insert session.cursors folder (Above (last_sequence (sent_up_to cursor) batch)) })) (index_message cursor folder batch) acted
      (sound_with_session config device other old (record session { cursors = insert session.cursors folder (Above (last_sequence (sent_up_to cursor) batch)) }) sound
      (moved_is_sound other old session folder cursor (Above (last_sequence (sent_up_to cursor) batch)) at one))
      (record {
        sound = message_is_sound cursor folder batch
            (batch_after replica.index.records (sent_up_to cursor) batch after)
            (records_are_good replica.index.records batch (sound.replicas folder replica is).own after.run.recorded);
        room = room;
        up = up;
      })
      made.0

  cursor_keeps : (cursor : Option Plan) → get session.cursors folder ≡ cursor → CursorRow other folder sight.full session cursor old acted answer → SoundActed config device sight acted
  cursor_keeps None at row = stayed config device sight old acted sound row.0
  cursor_keeps (Some cursor) at row = sending_keeps cursor row.0 at row.1 row.2

pub announce_keeps : (config : Config) (device other : Device) (folder : Folder) → KeepsPeer config device (AnnounceRow other folder)
announce_keeps config device other folder sight old acted answer sound waits row =
    in_session config device sight other old (λ session. CursorRow other folder sight.full session (get session.cursors folder) old) acted answer sound
    (λ session one up made. cursor_keeps config device other folder sight session old acted answer sound one up (get session.cursors folder) refl made)
    row
