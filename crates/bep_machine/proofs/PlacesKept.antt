-- A step that changes one replica, or what one device does over one link, keeps a cluster sound where its row does.
use Rattle.std.proofs.Common.{Contains, ℕ, sym, subst, inl, inr}
use Rattle.bep_model.specs.Tables.{Device, Folder}
use Rattle.bep_machine.specs.Answer.{Answer, Row}
use Rattle.bep_machine.specs.Replica.{Replica}
use Rattle.bep_machine.specs.Link.{Link, Sight, end_of, sight_of, after_deed}
use Rattle.bep_machine.specs.Peer.{Peer, Acted, with_replica}
use Rattle.bep_machine.specs.Cluster.{Cluster, link_between, with_peer}
use Rattle.bep_machine.specs.Steps.{AreLinked, AtReplica, OverLink, AtLink, ConnectRow, LoseRow, RestartRow, restarted, ResetRow, reset_to}
use Rattle.bep_machine.specs.Sound.{IsSoundReplica, IsSoundPeer, IsSoundLink, IsSound}
use Rattle.bep_machine.proofs.SoundParts.{SoundChange}
use Rattle.bep_machine.proofs.PeerKept.{sound_with_replica}
use Rattle.bep_machine.proofs.RestartKept.{sound_after_restart}
use Rattle.bep_machine.proofs.ResetKept.{sound_after_reset}
use Rattle.bep_machine.proofs.LinkKept.{sound_connected, sound_lost, sound_after_deed, waiting_is_sound}
use Rattle.bep_machine.proofs.ActedKept.{SoundActed, KeepsPeer}
use Rattle.bep_machine.proofs.ClusterKept.{sound_with_peer, sound_with_link, sound_with_link_between, sound_without_links, linked_is_sound}

pub replica_row_keeps : (device : Device) (folder : Folder) (row : Replica → Row Replica) → ((before after : Replica) (answer : Answer) → IsSoundReplica device before → row before after answer → SoundChange device before after)
    → (old new : Cluster) (answer : Answer) → IsSound old → AtReplica device folder row old new answer → IsSound new
replica_row_keeps device folder row keeps old new answer sound (before, after, is, made, same) =
    subst (λ c. IsSound c) (sym same) (sound_with_peer old device (with_replica (old.peer device) folder after) sound changed)
  where
    changed : Contains old.config.devices device → IsSoundPeer old.config device (with_replica (old.peer device) folder after)
    changed member =
        let peer = sound.peers device member in
        sound_with_replica old.config device (old.peer device) folder before after peer is (keeps before after answer (peer.replicas folder before is) made)

pub link_row_keeps : (device other : Device) (row : Sight → Peer → Row Acted) (old new : Cluster) (answer : Answer) → KeepsPeer old.config device row → IsSound old → AreLinked old.config device other
    → OverLink device other row old new answer → IsSound new
link_row_keeps device other row old new answer keeps sound linked (acted, made, same) =
    subst (λ c. IsSound c) (sym same)
    (sound_with_link_between (with_peer old device acted.peer) device other (after_deed (end_of device other) acted.deed (link_between old device other))
    (sound_with_peer old device acted.peer sound (λ member. done.peer))
    (sound_after_deed (end_of device other) acted.deed (link_between old device other) ends.1 done.sends))
  where
    ends : Contains old.config.devices device × IsSoundLink (link_between old device other)
    ends = linked_is_sound old device other sound linked

    done : SoundActed old.config device (sight_of (end_of device other) (link_between old device other)) acted
    done =
        keeps (sight_of (end_of device other) (link_between old device other)) (old.peer device) acted answer (sound.peers device ends.0)
        (waiting_is_sound (end_of device other) (link_between old device other) ends.1) made

-- ---- links

connect_keeps : (old new : Link) (answer : Answer) → IsSoundLink old → ConnectRow old new answer → IsSoundLink new
connect_keeps old new answer sound (inl up) = subst (λ l. IsSoundLink l) (sym up.1.0) sound
connect_keeps old new answer sound (inr (down, inl full)) = subst (λ l. IsSoundLink l) (sym full.1.0) sound
connect_keeps old new answer sound (inr (down, inr (more, made))) = subst (λ l. IsSoundLink l) (sym made.0) (sound_connected old)

lose_keeps : (old new : Link) (answer : Answer) → IsSoundLink old → LoseRow old new answer → IsSoundLink new
lose_keeps old new answer sound (inl down) = subst (λ l. IsSoundLink l) (sym down.1.0) sound
lose_keeps old new answer sound (inr (up, made)) = subst (λ l. IsSoundLink l) (sym made.0) (sound_lost old)

module _ (one other : Device) (old new : Cluster) (answer : Answer) (sound : IsSound old) where
  pub connecting_keeps : AtLink one other ConnectRow old new answer → IsSound new
  connecting_keeps (after, made, same) =
      subst (λ c. IsSound c) (sym same) (sound_with_link old one other after sound (λ member. connect_keeps (old.link one other) after answer (sound.links one other member) made))

  pub losing_keeps : AtLink one other LoseRow old new answer → IsSound new
  losing_keeps (after, made, same) =
      subst (λ c. IsSound c) (sym same) (sound_with_link old one other after sound (λ member. lose_keeps (old.link one other) after answer (sound.links one other member) made))

-- ---- restart and reset

pub restart_keeps : (device : Device) (old new : Cluster) (answer : Answer) → IsSound old → RestartRow device old new answer → IsSound new
restart_keeps device old new answer sound made =
    subst (λ c. IsSound c) (sym made.0)
    (sound_without_links (with_peer old device (restarted (old.peer device))) device
    (sound_with_peer old device (restarted (old.peer device)) sound (λ member. sound_after_restart old.config device (old.peer device) (sound.peers device member))))

pub reset_keeps : (device : Device) (id : ℕ) (old new : Cluster) (answer : Answer) → IsSound old → ResetRow device id old new answer → IsSound new
reset_keeps device id old new answer sound (inl refused) = subst (λ c. IsSound c) (sym refused.1.0) sound
reset_keeps device id old new answer sound (inr (above, made)) =
    subst (λ c. IsSound c) (sym made.0)
    (sound_without_links (with_peer old device (reset_to id (old.peer device))) device
    (sound_with_peer old device (reset_to id (old.peer device)) sound (λ member. sound_after_reset old.config device id (old.peer device) above (sound.peers device member))))
