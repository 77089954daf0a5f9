-- Every step of a cluster keeps each folder in step between each two devices.
use Rattle.std.proofs.Common.{◌≡◌, ◌≢◌, ◌⊎◌, ◌≤◌, ◌+◌, ℕ, Bool, true, false, List, [], Option, Some, None, IsSome, Contains, refl, sym, ap, subst, ◌∙◌, inl, inr, ⊎_elim, arith, unwrap_or}
use Rattle.std.proofs.lemmas.Bool.{cases_eq}
use Rattle.std.specs.FinMap.{get}
use Rattle.bep_index.specs.declared.send.Plan.{Plan}
use Rattle.bep_index.specs.Listing.{Listing}
use Rattle.bep_index.specs.Index.{IsIndex, after_put}
use Rattle.bep_index.specs.View.{cleared}
use Rattle.bep_record.specs.declared.entry.Entry.{Entry}
use Rattle.bep_model.specs.Tables.{Device, Folder}
use Rattle.bep_machine.specs.declared.message.Message.{Message}
use Rattle.bep_machine.specs.Replica.{ByDevice, Replica, view_of}
use Rattle.bep_machine.specs.Link.{End, Lower, Upper, Link, end_of, queue_to, queue_from, connected, after_deed}
use Rattle.bep_machine.specs.Peer.{Session, Peer, Acted}
use Rattle.bep_machine.specs.Gapless.{HasNoGap}
use Rattle.bep_machine.specs.Cluster.{Cluster, link_between, with_link_between, with_peer}
use Rattle.bep_machine.specs.Sound.{IsSound}
use Rattle.bep_machine.proofs.GapFacts.{keeps_up_after_put}
use Rattle.bep_machine.proofs.GapMoves.{in_step_after_put, in_step_anew}
use Rattle.bep_machine.proofs.GapPair.{cursor_at, cursor_of_another, IsBetween, between_in_step, OfBoth, IsOfEpoch, KeepsExchange}
use Rattle.bep_machine.proofs.GapRows.{IsGrown}
use Rattle.bep_machine.proofs.GapLinks.{IsPair, IsPairFrom, seen_from_here, seen_from_there, link_swap, pair_after_deed, pair_from_after_deed, same_epoch, between_here, between_apart, same_peers, same_config, peer_here, peer_apart}

-- each folder that both devices have, from the other one to this one
abbrev pub Exchanges : Device → Device → Link → Peer → Peer → Type 0
Exchanges device other link mine theirs =
    (folder : Folder) (replica others : Replica) → get mine.replicas folder ≡ Some replica → get theirs.replicas folder ≡ Some others →
    IsPair folder (end_of device other) link others.index (view_of replica other) (get theirs.sessions device) (get mine.sessions other)

-- it is so between each two devices, and no session is of an epoch to come
pub record IsExchanging (cluster : Cluster) : Type 0 where
  pub between : (device other : Device) → Contains cluster.config.devices device → Contains cluster.config.devices other → device ≢ other →
      Exchanges device other (link_between cluster device other) (cluster.peer device) (cluster.peer other)
  pub epochs : (device other : Device) → Contains cluster.config.devices device → device ≢ other → IsOfEpoch (link_between cluster device other).epoch (get (cluster.peer device).sessions other)

pub index_of : (cluster : Cluster) → IsSound cluster → (device : Device) → Contains cluster.config.devices device → (folder : Folder) (replica : Replica) → get (cluster.peer device).replicas folder ≡ Some replica → IsIndex replica.index
index_of cluster sound device member folder replica there = ((sound.peers device member).replicas folder replica there).index

-- what the folder was before
before_of : (Keeps : Replica → Replica → Type 0) (old new : Option Replica) → OfBoth Keeps old new → (after : Replica) → new ≡ Some after → (before : Replica) × (old ≡ Some before) × Keeps before after
before_of Keeps None None both after is = absurd (cc)
before_of Keeps None (Some found) both after is = absurd both
before_of Keeps (Some before) None both after is = absurd both
before_of Keeps (Some before) (Some found) both after is = let same : found ≡ after = cc in (before, refl, subst (Keeps before) same both)

-- ---- a device acts over a link

-- the view, the index and the sessions are the same
exchanges_same : (device other : Device) (link : Link) (mine theirs mine_now theirs_now : Peer) →
    ((folder : Folder) (after : Replica) → get mine_now.replicas folder ≡ Some after → (before : Replica) × (get mine.replicas folder ≡ Some before) × (view_of after other ≡ view_of before other)) →
    ((folder : Folder) (after : Replica) → get theirs_now.replicas folder ≡ Some after → (before : Replica) × (get theirs.replicas folder ≡ Some before) × (after.index ≡ before.index)) →
    get theirs_now.sessions device ≡ get theirs.sessions device → get mine_now.sessions other ≡ get mine.sessions other →
    Exchanges device other link mine theirs → Exchanges device other link mine_now theirs_now
exchanges_same device other link mine theirs mine_now theirs_now views indexes sender receiver pair folder replica others is_mine is_theirs =
    let one = views folder replica is_mine in
    let two = indexes folder others is_theirs in
    subst (λ (i : Listing). IsPair folder (end_of device other) link i (view_of replica other) (get theirs_now.sessions device) (get mine_now.sessions other)) (sym two.2)
    (subst (λ (v : Listing). IsPair folder (end_of device other) link two.0.index v (get theirs_now.sessions device) (get mine_now.sessions other)) (sym one.2)
    (subst (λ (s : Option Session). IsPair folder (end_of device other) link two.0.index (view_of one.0 other) s (get mine_now.sessions other)) (sym sender)
    (subst (λ (r : Option Session). IsPair folder (end_of device other) link two.0.index (view_of one.0 other) (get theirs.sessions device) r) (sym receiver)
    (pair folder one.0 two.0 one.1 two.1))))

module _ (old : Cluster) (sound : IsSound old) (exchanging : IsExchanging old) (device other : Device) (acted : Acted)
    (keeps : Contains old.config.devices device → KeepsExchange other (link_between old device other).up (link_between old device other).epoch (queue_to (end_of device other) (link_between old device other)) (queue_from (end_of device other) (link_between old device other)) (old.peer device) acted) where
  abbrev link : Link
  link = link_between old device other

  abbrev later : Link
  later = after_deed (end_of device other) acted.deed link

  abbrev new : Cluster
  new = with_link_between (with_peer old device acted.peer) device other later

  mine_now : new.peer device ≡ acted.peer
  mine_now = same_peers (with_peer old device acted.peer) device other later device ∙ peer_here old device acted.peer

  peer_still : (one : Device) → one ≢ device → new.peer one ≡ old.peer one
  peer_still one apart = same_peers (with_peer old device acted.peer) device other later one ∙ peer_apart old device acted.peer one apart

  link_now : link_between new device other ≡ later
  link_now = between_here (with_peer old device acted.peer) device other later

  link_still : (one third : Device) → ¬ ((one ≡ device) × (third ≡ other)) → ¬ ((one ≡ other) × (third ≡ device)) → link_between new one third ≡ link_between old one third
  link_still one third here there = between_apart (with_peer old device acted.peer) device other later one third here there

  -- the device receives
  it_receives : Contains old.config.devices device → Contains old.config.devices other → device ≢ other → Exchanges device other later acted.peer (old.peer other)
  it_receives member member_too apart folder after others is_after is_others =
      let before = before_of _ (get (old.peer device).replicas folder) (get acted.peer.replicas folder) ((keeps member).folders folder) after is_after in
      pair_after_deed folder (end_of device other) link others.index (view_of after other) (get (old.peer other).sessions device) (get acted.peer.sessions other) acted.deed
      (before.2.receives others.index (cursor_at link.epoch folder (get (old.peer other).sessions device)) (index_of old sound other member_too folder others is_others)
      (exchanging.between device other member member_too apart folder before.0 others before.1 is_others))

  -- the device sends
  it_sends : Contains old.config.devices device → Contains old.config.devices other → device ≢ other → Exchanges other device later (old.peer other) acted.peer
  it_sends member member_too apart folder replica after is_replica is_after =
      let before = before_of _ (get (old.peer device).replicas folder) (get acted.peer.replicas folder) ((keeps member).folders folder) after is_after in
      let pair = exchanging.between other device member_too member (λ same. apart (sym same)) folder replica before.0 is_replica before.1 in
      seen_from_there folder device other apart later after.index (view_of replica device) (get acted.peer.sessions other) (get (old.peer other).sessions device)
      (subst (λ (i : Listing). IsPairFrom folder (end_of device other) later i (view_of replica device) (get acted.peer.sessions other) (get (old.peer other).sessions device)) (sym before.2.same_index)
      (pair_from_after_deed folder (end_of device other) link before.0.index (view_of replica device) (get acted.peer.sessions other) (get (old.peer other).sessions device) acted.deed
      (before.2.sends (view_of replica device) (cursor_at link.epoch folder (get (old.peer other).sessions device))
      (seen_from_here folder device other apart link before.0.index (view_of replica device) (get (old.peer device).sessions other) (get (old.peer other).sessions device)
      (subst (λ (l : Link). IsPair folder (end_of other device) l before.0.index (view_of replica device) (get (old.peer device).sessions other) (get (old.peer other).sessions device)) (link_swap old device other apart) pair)))))

  -- it and a third device
  third_sends : (third : Device) → Contains old.config.devices device → Contains old.config.devices third → device ≢ third → third ≢ other → Exchanges device third (link_between old device third) acted.peer (old.peer third)
  third_sends third member member_too apart not_other =
      exchanges_same device third (link_between old device third) (old.peer device) (old.peer third) acted.peer (old.peer third)
      (λ folder after is.
      let before = before_of _ (get (old.peer device).replicas folder) (get acted.peer.replicas folder) ((keeps member).folders folder) after is in
      (before.0, before.1, before.2.views third not_other))
      (λ folder after is. (after, is, refl))
      refl ((keeps member).sessions third not_other)
      (exchanging.between device third member member_too apart)

  third_receives : (third : Device) → Contains old.config.devices device → Contains old.config.devices third → third ≢ device → third ≢ other → Exchanges third device (link_between old third device) (old.peer third) acted.peer
  third_receives third member member_too apart not_other =
      exchanges_same third device (link_between old third device) (old.peer third) (old.peer device) (old.peer third) acted.peer
      (λ folder after is. (after, is, refl))
      (λ folder after is.
      let before = before_of _ (get (old.peer device).replicas folder) (get acted.peer.replicas folder) ((keeps member).folders folder) after is in
      (before.0, before.1, before.2.same_index))
      ((keeps member).sessions third not_other) refl
      (exchanging.between third device member_too member apart)

  exchanges_as : (one third : Device) (l : Link) (mine theirs : Peer) → link_between new one third ≡ l → new.peer one ≡ mine → new.peer third ≡ theirs → Exchanges one third l mine theirs → Exchanges one third (link_between new one third) (new.peer one) (new.peer third)
  exchanges_as one third l mine theirs same_link same_mine same_theirs exchanges =
      subst (λ (k : Link). Exchanges one third k (new.peer one) (new.peer third)) (sym same_link)
      (subst (λ (p : Peer). Exchanges one third l p (new.peer third)) (sym same_mine)
      (subst (λ (p : Peer). Exchanges one third l mine p) (sym same_theirs) exchanges))

  acted_between : (one third : Device) → Contains old.config.devices one → Contains old.config.devices third → one ≢ third → Exchanges one third (link_between new one third) (new.peer one) (new.peer third)
  acted_between one third member member_too apart =
      ⊎_elim
      (λ (is_device : one ≡ device).
      subst (λ (d : Device). Exchanges d third (link_between new d third) (new.peer d) (new.peer third)) (sym is_device)
      (from_device (subst (λ (d : Device). Contains old.config.devices d) is_device member) (λ same. apart (is_device ∙ same))))
      (λ not_device.
      ⊎_elim
      (λ (is_device : third ≡ device).
      subst (λ (d : Device). Exchanges one d (link_between new one d) (new.peer one) (new.peer d)) (sym is_device)
      (to_device not_device (subst (λ (d : Device). Contains old.config.devices d) is_device member_too)))
      (λ not_too.
      exchanges_as one third (link_between old one third) (old.peer one) (old.peer third)
      (link_still one third (λ both. not_device both.0) (λ both. not_too both.1)) (peer_still one not_device) (peer_still third not_too)
      (exchanging.between one third member member_too apart))
      (cases_eq third device))
      (cases_eq one device)
    where
      from_device : Contains old.config.devices device → device ≢ third → Exchanges device third (link_between new device third) (new.peer device) (new.peer third)
      from_device is_member apart =
          ⊎_elim
          (λ (is_other : third ≡ other).
          subst (λ (d : Device). Exchanges device d (link_between new device d) (new.peer device) (new.peer d)) (sym is_other)
          (exchanges_as device other later acted.peer (old.peer other) link_now mine_now (peer_still other (λ same. apart (sym same ∙ sym is_other)))
          (it_receives is_member (subst (λ (d : Device). Contains old.config.devices d) is_other member_too) (λ same. apart (same ∙ sym is_other)))))
          (λ not_other.
          exchanges_as device third (link_between old device third) acted.peer (old.peer third)
          (link_still device third (λ both. not_other both.1) (λ both. apart (sym both.1))) mine_now (peer_still third (λ same. apart (sym same)))
          (third_sends third is_member member_too apart not_other))
          (cases_eq third other)

      to_device : one ≢ device → Contains old.config.devices device → Exchanges one device (link_between new one device) (new.peer one) (new.peer device)
      to_device not_device is_member =
          ⊎_elim
          (λ (is_other : one ≡ other).
          let apart : device ≢ other = λ same. not_device (is_other ∙ sym same) in
          subst (λ (d : Device). Exchanges d device (link_between new d device) (new.peer d) (new.peer device)) (sym is_other)
          (exchanges_as other device later (old.peer other) acted.peer (link_swap new device other apart ∙ link_now) (peer_still other (λ same. apart (sym same))) mine_now
          (it_sends is_member (subst (λ (d : Device). Contains old.config.devices d) is_other member) apart)))
          (λ not_other.
          exchanges_as one device (link_between old one device) (old.peer one) acted.peer
          (link_still one device (λ both. not_device both.0) (λ both. not_other both.0)) (peer_still one not_device) mine_now
          (third_receives one is_member member not_device not_other))
          (cases_eq one other)

  acted_epochs : (one third : Device) → Contains old.config.devices one → one ≢ third → IsOfEpoch (link_between new one third).epoch (get (new.peer one).sessions third)
  acted_epochs one third member apart =
      ⊎_elim
      (λ (is_device : one ≡ device).
      subst (λ (d : Device). IsOfEpoch (link_between new d third).epoch (get (new.peer d).sessions third)) (sym is_device)
      (of_device (subst (λ (d : Device). Contains old.config.devices d) is_device member) (λ same. apart (is_device ∙ same))))
      (λ not_device.
      subst (λ (p : Peer). IsOfEpoch (link_between new one third).epoch (get p.sessions third)) (sym (peer_still one not_device))
      (of_another not_device))
      (cases_eq one device)
    where
      of_device : Contains old.config.devices device → device ≢ third → IsOfEpoch (link_between new device third).epoch (get (new.peer device).sessions third)
      of_device is_member apart =
          subst (λ (p : Peer). IsOfEpoch (link_between new device third).epoch (get p.sessions third)) (sym mine_now)
          (⊎_elim
          (λ (is_other : third ≡ other).
          subst (λ (d : Device). IsOfEpoch (link_between new device d).epoch (get acted.peer.sessions d)) (sym is_other)
          (subst (λ (n : ℕ). IsOfEpoch n (get acted.peer.sessions other)) (sym (ap (λ (l : Link). l.epoch) link_now ∙ same_epoch (end_of device other) acted.deed link))
          ((keeps is_member).epochs (exchanging.epochs device other is_member (λ same. apart (same ∙ sym is_other))))))
          (λ not_other.
          subst (λ (l : Link). IsOfEpoch l.epoch (get acted.peer.sessions third)) (sym (link_still device third (λ both. not_other both.1) (λ both. apart (sym both.1))))
          (subst (IsOfEpoch (link_between old device third).epoch) (sym ((keeps is_member).sessions third not_other)) (exchanging.epochs device third is_member apart)))
          (cases_eq third other))

      of_another : one ≢ device → IsOfEpoch (link_between new one third).epoch (get (old.peer one).sessions third)
      of_another not_device =
          subst (λ (n : ℕ). IsOfEpoch n (get (old.peer one).sessions third)) (sym (epoch_still not_device))
          (exchanging.epochs one third member apart)
        where
          epoch_still : one ≢ device → (link_between new one third).epoch ≡ (link_between old one third).epoch
          epoch_still not_device =
              ⊎_elim
              (λ (is_device : third ≡ device).
              ⊎_elim
              (λ (is_other : one ≡ other).
              let free : device ≢ other = λ same. not_device (is_other ∙ sym same) in
              ap (λ (pair : Device × Device). (link_between new pair.0 pair.1).epoch) (λ i. (is_other i, is_device i))
              ∙ ap (λ (l : Link). l.epoch) (link_swap new device other free ∙ link_now)
              ∙ same_epoch (end_of device other) acted.deed link
              ∙ ap (λ (l : Link). l.epoch) (sym (link_swap old device other free))
              ∙ ap (λ (pair : Device × Device). (link_between old pair.0 pair.1).epoch) (λ i. (sym is_other i, sym is_device i)))
              (λ not_other. ap (λ (l : Link). l.epoch) (link_still one third (λ both. not_device both.0) (λ both. not_other both.0)))
              (cases_eq one other))
              (λ not_too. ap (λ (l : Link). l.epoch) (link_still one third (λ both. not_device both.0) (λ both. not_too both.1)))
              (cases_eq third device)

  same_devices : new.config ≡ old.config
  same_devices = same_config (with_peer old device acted.peer) device other later

  pub acted_exchanging : IsExchanging (with_link_between (with_peer old device acted.peer) device other (after_deed (end_of device other) acted.deed (link_between old device other)))
  acted_exchanging = record {
    between = λ one third member member_too apart.
        acted_between one third (subst (λ (c : _). Contains c.devices one) same_devices member) (subst (λ (c : _). Contains c.devices third) same_devices member_too) apart;
    epochs = λ one third member apart. acted_epochs one third (subst (λ (c : _). Contains c.devices one) same_devices member) apart;
  }

-- ---- links that go down or come up, and replicas that put a record

-- what may become of a link, with the sessions at its two ends
pub data LinkMove (old new : Link) (mine theirs mine_now theirs_now : Option Session) : Type 0 where
  Stays : new ≡ old → mine_now ≡ mine → theirs_now ≡ theirs → LinkMove old new mine theirs mine_now theirs_now
  GoesDown : new.up ≡ false → LinkMove old new mine theirs mine_now theirs_now
  ComesUp : new ≡ connected old → mine_now ≡ mine → theirs_now ≡ theirs → LinkMove old new mine theirs mine_now theirs_now

pub record IsLooseStep (old new : Cluster) : Type 0 where
  pub config : new.config ≡ old.config
  pub replicas : (device : Device) (folder : Folder) → OfBoth IsGrown (get (old.peer device).replicas folder) (get (new.peer device).replicas folder)
  pub links : (device other : Device) → device ≢ other →
      LinkMove (link_between old device other) (link_between new device other) (get (old.peer device).sessions other) (get (old.peer other).sessions device) (get (new.peer device).sessions other) (get (new.peer other).sessions device)
  pub epochs : (device other : Device) → device ≢ other → IsOfEpoch (link_between old device other).epoch (get (old.peer device).sessions other) → IsOfEpoch (link_between new device other).epoch (get (new.peer device).sessions other)

grown_between : (folder : Folder) (up : Bool) (index view : Listing) (cursor named : Option Plan) (queue back : List Message) (index_now : Listing) → IsIndex index → (index_now ≡ index) ⊎ ((put : Entry) × (index_now ≡ after_put index put)) → IsBetween folder up index view cursor named queue back → IsBetween folder up index_now view cursor named queue back
grown_between folder up index view cursor named queue back index_now is_index (inl same) between = subst (λ (i : Listing). IsBetween folder up i view cursor named queue back) (sym same) between
grown_between folder up index view cursor named queue back index_now is_index (inr (put, same)) between =
    subst (λ (i : Listing). IsBetween folder up i view cursor named queue back) (sym same)
    (record {
      earlier = between.earlier;
      keeps_up = λ equal. keeps_up_after_put index view put is_index (between.keeps_up equal);
      in_step = λ up_now. in_step_after_put folder index view cursor (IsSome named) queue back put is_index (between.in_step up_now);
    })

not_yet : (epoch : ℕ) (folder : Folder) (found : Option Session) → IsOfEpoch epoch found → cursor_at (epoch + 1) folder found ≡ None
not_yet epoch folder None is = refl
not_yet epoch folder (Some session) is =
    cursor_of_another (epoch + 1) folder (Some session) (λ other same later. let equal : session.epoch ≡ other.epoch = ap (λ (o : Option Session). epoch_of o) same in absurd (omega (arith, is, equal, later)))
  where
    epoch_of : Option Session → ℕ
    epoch_of None = 0
    epoch_of (Some one) = one.epoch

anew : (folder : Folder) (end : End) (link : Link) (index view : Listing) (sender receiver : Option Session) → IsOfEpoch link.epoch sender → IsOfEpoch link.epoch receiver → view.id ≤ index.id → (view.id ≡ index.id → HasNoGap index view) → IsPair folder end (connected link) index view sender receiver
anew folder end link index view sender receiver sends receives earlier keeps =
    subst (λ (cursor : Option Plan). IsBetween folder true index view cursor (cursor_at (link.epoch + 1) folder receiver) (queue_to end (connected link)) (queue_from end (connected link))) (sym (not_yet link.epoch folder sender sends))
    (subst (λ (named : Option Plan). IsBetween folder true index view None named (queue_to end (connected link)) (queue_from end (connected link))) (sym (not_yet link.epoch folder receiver receives))
    (empty_queues end))
  where
    empty_queues : (end : End) → IsBetween folder true index view None None (queue_to end (connected link)) (queue_from end (connected link))
    empty_queues Lower = between_in_step folder true index view None None [] [] (in_step_anew folder index view (IsSome {T = Plan} None) (λ named. cc) earlier keeps)
    empty_queues Upper = between_in_step folder true index view None None [] [] (in_step_anew folder index view (IsSome {T = Plan} None) (λ named. cc) earlier keeps)

moved_pair : (folder : Folder) (end : End) (old new : Link) (index view : Listing) (mine theirs mine_now theirs_now : Option Session) → IsOfEpoch old.epoch mine → IsOfEpoch old.epoch theirs → LinkMove old new mine theirs mine_now theirs_now →
    IsPair folder end old index view theirs mine → IsPair folder end new index view theirs_now mine_now
moved_pair folder end old new index view mine theirs mine_now theirs_now of_mine of_theirs (Stays same here there) pair =
    subst (λ (l : Link). IsPair folder end l index view theirs_now mine_now) (sym same)
    (subst (λ (s : Option Session). IsPair folder end old index view s mine_now) (sym there)
    (subst (λ (r : Option Session). IsPair folder end old index view theirs r) (sym here) pair))
moved_pair folder end old new index view mine theirs mine_now theirs_now of_mine of_theirs (GoesDown down) pair =
    record { earlier = pair.earlier; keeps_up = pair.keeps_up; in_step = λ up. let never : true ≡ false = sym up ∙ down in absurd (cc) }
moved_pair folder end old new index view mine theirs mine_now theirs_now of_mine of_theirs (ComesUp same here there) pair =
    subst (λ (l : Link). IsPair folder end l index view theirs_now mine_now) (sym same)
    (subst (λ (s : Option Session). IsPair folder end (connected old) index view s mine_now) (sym there)
    (subst (λ (r : Option Session). IsPair folder end (connected old) index view theirs r) (sym here)
    (anew folder end old index view theirs mine of_theirs of_mine pair.earlier pair.keeps_up)))

pub loose_exchanging : (old new : Cluster) → IsSound old → IsLooseStep old new → IsExchanging old → IsExchanging new
loose_exchanging old new sound step exchanging = record {
  between = λ device other member member_too apart.
      between device other (subst (λ (c : _). Contains c.devices device) step.config member) (subst (λ (c : _). Contains c.devices other) step.config member_too) apart;
  epochs = λ device other member apart. step.epochs device other apart (exchanging.epochs device other (subst (λ (c : _). Contains c.devices device) step.config member) apart);
}
  where
    between : (device other : Device) → Contains old.config.devices device → Contains old.config.devices other → device ≢ other → Exchanges device other (link_between new device other) (new.peer device) (new.peer other)
    between device other member member_too apart folder replica others is_replica is_others =
        let mine = before_of IsGrown (get (old.peer device).replicas folder) (get (new.peer device).replicas folder) (step.replicas device folder) replica is_replica in
        let theirs = before_of IsGrown (get (old.peer other).replicas folder) (get (new.peer other).replicas folder) (step.replicas other folder) others is_others in
        let pair = exchanging.between device other member member_too apart folder mine.0 theirs.0 mine.1 theirs.1 in
        let moved = moved_pair folder (end_of device other) (link_between old device other) (link_between new device other) theirs.0.index (view_of mine.0 other)
        (get (old.peer device).sessions other) (get (old.peer other).sessions device) (get (new.peer device).sessions other) (get (new.peer other).sessions device)
        (exchanging.epochs device other member apart)
        (subst (λ (l : Link). IsOfEpoch l.epoch (get (old.peer other).sessions device)) (link_swap old device other apart) (exchanging.epochs other device member_too (λ same. apart (sym same))))
        (step.links device other apart) pair in
        subst (λ (views : ByDevice Listing). IsPair folder (end_of device other) (link_between new device other) others.index (unwrap_or (get views other) (cleared 0)) (get (new.peer other).sessions device) (get (new.peer device).sessions other)) (sym mine.2.views)
        (grown_between folder _ theirs.0.index (view_of mine.0 other) _ _ _ _ others.index (index_of old sound other member_too folder theirs.0 theirs.1) theirs.2.index moved)
