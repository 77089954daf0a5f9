-- In a sound cluster the records of a message that a device takes were on their way to it, from a device that shares
-- the folder.
use Rattle.std.proofs.Common.{◌≡◌, ◌⊎◌, ◌==◌, ◌&&◌, ◌||◌, ℕ, Bool, true, false, List, [], Some, Contains, refl, sym, subst, ⊎_elim, if◌then◌else◌}
use Rattle.std.proofs.lemmas.Bool.{eq-eqb}
use Rattle.std.specs.List.{flat_map}
use Rattle.std.specs.FinMap.{get}
use Rattle.bep_facts.specs.Members.{Contains-first, Contains-flat_map}
use Rattle.bep_record.specs.declared.entry.Entry.{Entry}
use Rattle.bep_index.specs.After.{IsAmong}
use Rattle.bep_index.specs.Laws.{AmongIsContained}
use Rattle.bep_model.specs.declared.flight.Flight.{Flight}
use Rattle.bep_model.specs.Tables.{Device, Folder, FileName}
use Rattle.bep_model.specs.Foreign.{IsFlying}
use Rattle.bep_machine.specs.declared.message.Message.{Message}
use Rattle.bep_machine.specs.declared.message.Message.TheVariants as messages
use Rattle.bep_machine.specs.Link.{end_of, sight_of}
use Rattle.bep_machine.specs.Peer.{Session}
use Rattle.bep_machine.specs.Exchange.{SharesWith, IsNamed}
use Rattle.bep_machine.specs.Cluster.{Config, Cluster, link_between}
use Rattle.bep_machine.specs.Steps.{SharesFolder, AreLinked}
use Rattle.bep_machine.specs.Said.{both_share, flight_when, flights_of, are_linked, on_its_way, tables_of_cluster}
use Rattle.bep_machine.specs.Sound.{IsSound, IsSoundPeer}
use Rattle.bep_machine.proofs.FoundAfter.{value_of}
use Rattle.bep_machine.proofs.LinkSteps.{any_from_member}
use Rattle.bep_machine.proofs.LinkQueues.{queue_between, waiting_is_there}
use Rattle.bep_machine.proofs.SaidReplicas.{shares_test}
use Rattle.bep_machine.proofs.ViewKept.{is_among_others}

both_true : (a b : Bool) → a ≡ true → b ≡ true → (a && b) ≡ true
both_true true b first second = second
both_true false b first second = absurd (cc)

left_true : (a b : Bool) → a ≡ true → (a || b) ≡ true
left_true true b first = refl
left_true false b first = absurd (cc)

right_true : (a b : Bool) → b ≡ true → (a || b) ≡ true
right_true true b second = refl
right_true false b second = second

same_pair : (one other : ℕ) → ((one == one) && (other == other)) ≡ true
same_pair one other = both_true (one == one) (other == other) (eq-eqb one one refl) (eq-eqb other other refl)

linked_test : (config : Config) (sender receiver : Device) → AreLinked config receiver sender → are_linked config sender receiver ≡ true
linked_test config sender receiver linked =
    ⊎_elim
    (λ link. any_from_member test config.links (receiver, sender) link (right_true ((receiver == sender) && (sender == receiver)) _ (same_pair receiver sender)))
    (λ link. any_from_member test config.links (sender, receiver) link (left_true _ ((sender == receiver) && (receiver == sender)) (same_pair sender receiver)))
    linked
  where
    test : Device × Device → Bool
    test link = ((link.0 == sender) && (link.1 == receiver)) || ((link.0 == receiver) && (link.1 == sender))

-- a device that has a link is one of the cluster
pub linked_is_there : (cluster : Cluster) → IsSound cluster → (device other : Device) → AreLinked cluster.config device other → Contains cluster.config.devices device
linked_is_there cluster sound device other linked =
    ⊎_elim (λ link. (sound.config.links device other link).1) (λ link. (sound.config.links other device link).2) linked

module _ (among : AmongIsContained) (cluster : Cluster) (sound : IsSound cluster) (device other : Device) (linked : AreLinked cluster.config device other) where
  peer_is_sound : IsSoundPeer cluster.config device (cluster.peer device)
  peer_is_sound = sound.peers device (linked_is_there cluster sound device other linked)

  shares_with : (session : Session) (folder : Folder) → get (cluster.peer device).sessions other ≡ Some session → IsNamed session folder → SharesWith other (cluster.peer device) folder
  shares_with session folder is named =
      let cursor = value_of (get session.cursors folder) named in
      (peer_is_sound.sessions other session is).named folder cursor.0 cursor.1

  both_shares : (folder : Folder) → SharesWith other (cluster.peer device) folder → SharesFolder cluster.config other folder × SharesFolder cluster.config device folder
  both_shares folder shared =
      let fit = peer_is_sound.fit folder shared.0 shared.1 in
      let member = is_among_others other shared.0.others shared.2 in
      (((fit.others other).0 member).1, (shared.0.kind, fit.kind))

  flies : (message : Message) (flight : Flight) → Contains (queue_between cluster.link other device) message → Contains (flights_of cluster.config other device message) flight → Contains (on_its_way cluster other device) flight
  flies message flight waits carries =
      subst (λ (b : Bool). Contains (if b then flat_map (flights_of cluster.config other device) (queue_between cluster.link other device) else []) flight)
      (sym (linked_test cluster.config other device linked))
      (Contains-flat_map (flights_of cluster.config other device) (queue_between cluster.link other device) message flight waits carries)

  carried_when_shared : (folder : Folder) (full : Bool) (batch : List Entry) → SharesFolder cluster.config other folder × SharesFolder cluster.config device folder → Contains (flight_when (both_share cluster.config other device folder) folder full batch) (record { folder = folder; full = full; records = batch })
  carried_when_shared folder full batch shares =
      let both : both_share cluster.config other device folder ≡ true = both_true _ _ (shares_test cluster.config other folder shares.0) (shares_test cluster.config device folder shares.1) in
      subst (λ b. Contains (flight_when b folder full batch) (record { folder = folder; full = full; records = batch })) (sym both) (Contains-first _ [])

  -- the records of a batch on its way fly
  flown : (folder : Folder) (full : Bool) (batch : List Entry) → SharesFolder cluster.config other folder → Contains (on_its_way cluster other device) (record { folder = folder; full = full; records = batch }) →
      (name : FileName) (entry : Entry) → IsAmong entry batch → entry.name ≡ name → IsFlying (tables_of_cluster cluster) device folder name entry
  flown folder full batch shares sent name entry in_batch same = record {
    sender = other;
    shares = shares;
    flight = record { folder = folder; full = full; records = batch };
    sent = sent;
    same_folder = refl;
    carried = (among entry batch).0 in_batch;
    same_name = same;
  }

  pub records_fly : (session : Session) (message : Message) (folder : Folder) (batch : List Entry) → get (cluster.peer device).sessions other ≡ Some session → (sight_of (end_of device other) (link_between cluster device other)).waiting ≡ Some message → IsNamed session folder → (message ≡ messages.Index folder batch) ⊎ (message ≡ messages.IndexUpdate folder batch) → (name : FileName) (entry : Entry) → IsAmong entry batch → entry.name ≡ name → IsFlying (tables_of_cluster cluster) device folder name entry
  records_fly session message folder batch is waiting named kind name entry in_batch same =
      let shares = both_shares folder (shares_with session folder is named) in
      let waits = waiting_is_there cluster device other message waiting in
      ⊎_elim
      (λ full.
      flown folder true batch shares.0
      (flies (messages.Index folder batch) _ (subst (λ one. Contains (queue_between cluster.link other device) one) full waits) (carried_when_shared folder true batch shares))
      name entry in_batch same)
      (λ update.
      flown folder false batch shares.0
      (flies (messages.IndexUpdate folder batch) _ (subst (λ one. Contains (queue_between cluster.link other device) one) update waits) (carried_when_shared folder false batch shares))
      name entry in_batch same)
      kind
