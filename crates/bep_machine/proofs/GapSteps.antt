-- Each step of a cluster keeps each folder in step between each two devices.
use Rattle.std.proofs.Common.{◌≡◌, ◌≢◌, ◌⊎◌, ◌≤◌, ◌+◌, ◌==◌, ◌&&◌, ℕ, Bool, true, false, nat_lt, Option, Some, None, if◌then◌else◌, refl, sym, ap, subst, ◌∙◌, inl, inr, ⊎_elim, arith, eqb-true, option_map}
use Rattle.std.proofs.lemmas.Bool.{cases_eq}
use Rattle.std.specs.Ordering.{nat_cmp}
use Rattle.std.specs.Cmp.Lexicographic.{nat_list_cmp_total}
use Rattle.std.specs.FinMap.{get, get-empty}
use Rattle.bep_index.specs.Laws.{FoundIsOfBatchOrBefore, BatchIsFound, OthersAreKept}
use Rattle.bep_model.specs.Tables.{Device, Folder}
use Rattle.bep_machine.specs.declared.step.Step.{Step}
use Rattle.bep_machine.specs.declared.step.Step.TheVariants.{Edit, Remove, Scan, Override, Revert, Connect, Lose, Begin, Deliver, Announce, StartPull, Ask, Finish, Restart, Reset}
use Rattle.bep_machine.specs.Answer.{Answer, Row}
use Rattle.bep_machine.specs.Replica.{Replica}
use Rattle.bep_machine.specs.Local.{EditRow, RemoveRow, ScanRow, OverrideRow, RevertRow}
use Rattle.bep_machine.specs.Pull.{StartPullRow, FinishRow}
use Rattle.bep_machine.specs.Link.{Link, Sight, connected, lost, end_of, sight_of, queue_to, queue_from}
use Rattle.bep_machine.specs.Peer.{Session, Peer, Acted, with_replica}
use Rattle.bep_machine.specs.Exchange.{BeginRow, DeliverRow, AnnounceRow, AskRow}
use Rattle.bep_machine.specs.Cluster.{Cluster, link_between, with_link, with_peer, without_links}
use Rattle.bep_machine.specs.Steps.{AtReplica, AtLink, OverLink, ConnectRow, LoseRow, RestartRow, without_pulls, restarted, StepRow, IsStep}
use Rattle.bep_machine.specs.Sound.{IsSound, IsSoundPeer}
use Rattle.bep_machine.proofs.FoundAfter.{get-mapped}
use Rattle.bep_machine.proofs.Places.{each_name_after_insert, each_after_change}
use Rattle.bep_machine.proofs.GapPair.{OfBoth, of_same, IsOfEpoch, KeepsExchange}
use Rattle.bep_machine.proofs.GapSend.{begin_keeps, announce_keeps, ask_keeps}
use Rattle.bep_machine.proofs.GapTake.{deliver_keeps}
use Rattle.bep_machine.proofs.GapRows.{IsGrown, nothing_grown, RowGrows, edit_grows, remove_grows, scan_grows, override_grows, revert_grows, start_pull_grows, finish_grows}
use Rattle.bep_machine.proofs.GapLinks.{peer_here, peer_apart}
use Rattle.bep_machine.proofs.GapReset.{LinksOfLost, links_of_lost, reset_step}
use Rattle.bep_machine.proofs.GapCluster.{IsExchanging, LinkMove, Stays, GoesDown, ComesUp, IsLooseStep, acted_exchanging, loose_exchanging}

all_grown : (found : Option Replica) → OfBoth IsGrown found found
all_grown found = of_same IsGrown found (λ replica there. nothing_grown replica)

-- ---- a step of one replica

replica_step : (device : Device) (folder : Folder) (row : Replica → Row Replica) → RowGrows row → (old new : Cluster) (answer : Answer) → IsSound old → IsExchanging old → AtReplica device folder row old new answer → IsExchanging new
replica_step device folder row grows old new answer sound exchanging (before, after, there, made, same) =
    subst IsExchanging (sym same) (loose_exchanging old (with_peer old device (with_replica (old.peer device) folder after)) sound step exchanging)
  where
    sessions : (one : Device) → ((with_peer old device (with_replica (old.peer device) folder after)).peer one).sessions ≡ (old.peer one).sessions
    sessions = each_after_change (λ one peer. peer.sessions ≡ (old.peer one).sessions) old.peer device (with_replica (old.peer device) folder after) refl (λ one. refl)

    step : IsLooseStep old (with_peer old device (with_replica (old.peer device) folder after))
    step = record {
      config = refl;
      replicas = each_after_change (λ one peer. (in_folder : Folder) → OfBoth IsGrown (get (old.peer one).replicas in_folder) (get peer.replicas in_folder)) old.peer device (with_replica (old.peer device) folder after)
          (each_name_after_insert (λ in_folder now. OfBoth IsGrown (get (old.peer device).replicas in_folder) now) (old.peer device).replicas folder after
          (subst (λ (o : Option Replica). OfBoth IsGrown o (Some after)) (sym there) (grows before after answer made))
          (λ in_folder. all_grown (get (old.peer device).replicas in_folder)))
          (λ one in_folder. all_grown (get (old.peer one).replicas in_folder));
      links = λ one third apart. Stays refl (ap (λ s. get s third) (sessions one)) (ap (λ s. get s one) (sessions third));
      epochs = λ one third apart is. subst (λ s. IsOfEpoch (link_between old one third).epoch (get s third)) (sym (sessions one)) is;
    }

-- ---- a link that comes up or goes down

later_epoch : (one other : ℕ) (found : Option Session) → one ≤ other → IsOfEpoch one found → IsOfEpoch other found
later_epoch one other None less is = tt
later_epoch one other (Some session) less is = omega (arith, less, is)

abbrev MayBecome : Link → Link → Type 0
MayBecome old new = (new ≡ old) ⊎ (new ≡ lost old) ⊎ (new ≡ connected old)

epoch_grows : (old new : Link) → MayBecome old new → old.epoch ≤ new.epoch
epoch_grows old new (inl same) = let e = ap (λ (l : Link). l.epoch) same in omega (arith, e)
epoch_grows old new (inr (inl same)) = let e = ap (λ (l : Link). l.epoch) same in omega (arith, e)
epoch_grows old new (inr (inr same)) = let e : new.epoch ≡ old.epoch + 1 = ap (λ (l : Link). l.epoch) same in omega (arith, e)

moves : (old new : Link) (mine theirs : Option Session) → MayBecome old new → LinkMove old new mine theirs mine theirs
moves old new mine theirs (inl same) = Stays same refl refl
moves old new mine theirs (inr (inl same)) = GoesDown (ap (λ (l : Link). l.up) same)
moves old new mine theirs (inr (inr same)) = ComesUp same refl refl

connect_becomes : (old new : Link) (answer : Answer) → ConnectRow old new answer → MayBecome old new
connect_becomes old new answer (inl up) = inl up.1.0
connect_becomes old new answer (inr (down, inl full)) = inl full.1.0
connect_becomes old new answer (inr (down, inr (more, made))) = inr (inr made.0)

lose_becomes : (old new : Link) (answer : Answer) → LoseRow old new answer → MayBecome old new
lose_becomes old new answer (inl down) = inl down.1.0
lose_becomes old new answer (inr (up, made)) = inr (inl made.0)

link_step : (lower upper : Device) (row : Link → Row Link) → ((old new : Link) (answer : Answer) → row old new answer → MayBecome old new) → (old new : Cluster) (answer : Answer) → IsSound old → IsExchanging old → AtLink lower upper row old new answer → IsExchanging new
link_step lower upper row becoming old new answer sound exchanging (after, made, same) =
    subst IsExchanging (sym same) (loose_exchanging old (with_link old lower upper after) sound step exchanging)
  where
    each : (one other : Device) → MayBecome (old.link one other) ((with_link old lower upper after).link one other)
    each one other = cases (one == lower) (other == upper) refl refl
      where
        cases : (a b : Bool) → (one == lower) ≡ a → (other == upper) ≡ b → MayBecome (old.link one other) (if a && b then after else old.link one other)
        cases true true e f =
            subst (λ (d : Device). MayBecome (old.link d other) after) (sym (eqb-true one lower e))
            (subst (λ (d : Device). MayBecome (old.link lower d) after) (sym (eqb-true other upper f)) (becoming (old.link lower upper) after answer made))
        cases true false e f = inl refl
        cases false b e f = inl refl

    between : (one other : Device) → MayBecome (link_between old one other) (link_between (with_link old lower upper after) one other)
    between one other = cases (nat_lt one other)
      where
        cases : (b : Bool) → MayBecome (if b then old.link one other else old.link other one) (if b then (with_link old lower upper after).link one other else (with_link old lower upper after).link other one)
        cases true = each one other
        cases false = each other one

    step : IsLooseStep old (with_link old lower upper after)
    step = record {
      config = refl;
      replicas = λ device folder. all_grown (get (old.peer device).replicas folder);
      links = λ device other apart. moves (link_between old device other) (link_between (with_link old lower upper after) device other) (get (old.peer device).sessions other) (get (old.peer other).sessions device) (between device other);
      epochs = λ device other apart is. later_epoch (link_between old device other).epoch (link_between (with_link old lower upper after) device other).epoch (get (old.peer device).sessions other) (epoch_grows (link_between old device other) (link_between (with_link old lower upper after) device other) (between device other)) is;
    }

-- ---- a restart

restart_step : (device : Device) (old new : Cluster) (answer : Answer) → IsSound old → IsExchanging old → RestartRow device old new answer → IsExchanging new
restart_step device old new answer sound exchanging made =
    subst IsExchanging (sym made.0) (loose_exchanging old after sound step exchanging)
  where
    after : Cluster
    after = without_links (with_peer old device (restarted (old.peer device))) device

    links : (one other : Device) → LinksOfLost device old after one other
    links = links_of_lost device old (restarted (old.peer device))

    grown : (found : Option Replica) → OfBoth IsGrown found (option_map without_pulls found)
    grown None = tt
    grown (Some replica) = record { views = refl; index = inl refl }

    peer_still : (one : Device) → one ≢ device → after.peer one ≡ old.peer one
    peer_still one apart = peer_apart old device (restarted (old.peer device)) one apart

    peer_now : after.peer device ≡ restarted (old.peer device)
    peer_now = peer_here old device (restarted (old.peer device))

    step : IsLooseStep old after
    step = record {
      config = refl;
      replicas = each_after_change (λ one peer. (folder : Folder) → OfBoth IsGrown (get (old.peer one).replicas folder) (get peer.replicas folder)) old.peer device (restarted (old.peer device))
          (λ folder. subst (OfBoth IsGrown (get (old.peer device).replicas folder)) (sym (get-mapped nat_list_cmp_total without_pulls (old.peer device).replicas folder)) (grown (get (old.peer device).replicas folder)))
          (λ one folder. all_grown (get (old.peer one).replicas folder));
      links = λ one other apart.
          ⊎_elim
          (λ here. GoesDown ((links one other).0 (inl here)))
          (λ not_one.
          ⊎_elim
          (λ there. GoesDown ((links one other).0 (inr there)))
          (λ not_other. Stays ((links one other).1 not_one not_other) (ap (λ (p : Peer). get p.sessions other) (peer_still one not_one)) (ap (λ (p : Peer). get p.sessions one) (peer_still other not_other)))
          (cases_eq other device))
          (cases_eq one device);
      epochs = λ one other apart is.
          subst (λ (n : ℕ). IsOfEpoch n (get (after.peer one).sessions other)) (sym (links one other).2)
          (⊎_elim
          (λ (here : one ≡ device).
          subst (λ (p : Peer). IsOfEpoch (link_between old one other).epoch (get p.sessions other)) (sym (ap after.peer here ∙ peer_now))
          (subst (IsOfEpoch (link_between old one other).epoch) (sym (get-empty nat_cmp other)) tt))
          (λ not_one. subst (λ (p : Peer). IsOfEpoch (link_between old one other).epoch (get p.sessions other)) (sym (peer_still one not_one)) is)
          (cases_eq one device));
    }

-- ---- what a device does over a link

module _ (device other : Device) (old new : Cluster) (answer : Answer) (sound : IsSound old) (exchanging : IsExchanging old) where
  over_link : (row : Sight → Peer → Row Acted) →
      ((acted : Acted) → IsSoundPeer old.config device (old.peer device) → row (sight_of (end_of device other) (link_between old device other)) (old.peer device) acted answer →
      KeepsExchange other (link_between old device other).up (link_between old device other).epoch (queue_to (end_of device other) (link_between old device other)) (queue_from (end_of device other) (link_between old device other)) (old.peer device) acted) →
      OverLink device other row old new answer → IsExchanging new
  over_link row keeps (acted, made, same) =
      subst IsExchanging (sym same) (acted_exchanging old sound exchanging device other acted (λ member. keeps acted (sound.peers device member) made))

-- ---- each step

module _ (found : FoundIsOfBatchOrBefore) (taken : BatchIsFound) (others : OthersAreKept) where
  row_exchanging : (step : Step) (failed : Option ℕ) (old new : Cluster) (answer : Answer) → IsSound old → IsExchanging old → StepRow step failed old new answer → IsExchanging new
  row_exchanging (Edit device folder name node) failed old new answer sound exchanging row = replica_step device folder (EditRow name node failed) (edit_grows name node failed) old new answer sound exchanging row
  row_exchanging (Remove device folder name) failed old new answer sound exchanging row = replica_step device folder (RemoveRow name failed) (remove_grows name failed) old new answer sound exchanging row
  row_exchanging (Scan device folder name) failed old new answer sound exchanging row = replica_step device folder (ScanRow device name failed) (scan_grows device name failed) old new answer sound exchanging row
  row_exchanging (Override device folder name) failed old new answer sound exchanging row = replica_step device folder (OverrideRow device name) (override_grows device name) old new answer sound exchanging row
  row_exchanging (Revert device folder name) failed old new answer sound exchanging row = replica_step device folder (RevertRow device name failed) (revert_grows device name failed) old new answer sound exchanging row
  row_exchanging (Connect one other) failed old new answer sound exchanging row = link_step one other ConnectRow connect_becomes old new answer sound exchanging row
  row_exchanging (Lose one other) failed old new answer sound exchanging row = link_step one other LoseRow lose_becomes old new answer sound exchanging row
  row_exchanging (Begin device other) failed old new answer sound exchanging row =
      over_link device other old new answer sound exchanging (BeginRow other)
      (λ acted peer made. begin_keeps other _ _ _ _ _ (old.peer device) acted answer made) row
  row_exchanging (Deliver device other) failed old new answer sound exchanging row =
      over_link device other old new answer sound exchanging (DeliverRow other failed)
      (λ acted peer made. deliver_keeps found taken others other _ _ _ _ (old.peer device) acted answer (λ session has. (peer.sessions other session has).unnamed) _ failed made) row
  row_exchanging (Announce device other folder) failed old new answer sound exchanging row =
      over_link device other old new answer sound exchanging (AnnounceRow other folder)
      (λ acted peer made. announce_keeps other _ _ _ _ _ (old.peer device) acted answer folder (λ replica there. (peer.replicas folder replica there).index) made) row
  row_exchanging (StartPull device folder name) failed old new answer sound exchanging row = replica_step device folder (StartPullRow device name) (start_pull_grows device name) old new answer sound exchanging row
  row_exchanging (Ask device other folder name) failed old new answer sound exchanging row =
      over_link device other old new answer sound exchanging (AskRow other folder name)
      (λ acted peer made. ask_keeps other _ _ _ _ _ (old.peer device) acted answer folder name made) row
  row_exchanging (Finish device folder name) failed old new answer sound exchanging row = replica_step device folder (FinishRow device name failed) (finish_grows device name failed) old new answer sound exchanging row
  row_exchanging (Restart device) failed old new answer sound exchanging row = restart_step device old new answer sound exchanging row
  row_exchanging (Reset device id) failed old new answer sound exchanging row = reset_step device id old new answer sound exchanging row

  pub step_exchanging : (step : Step) (failed : Option ℕ) (old new : Cluster) (answer : Answer) → IsSound old → IsExchanging old → IsStep step failed old new answer → IsExchanging new
  step_exchanging step failed old new answer sound exchanging (inl (grows, same)) = subst IsExchanging (sym same.0) exchanging
  step_exchanging step failed old new answer sound exchanging (inr (inl (missing, same))) = subst IsExchanging (sym same.0) exchanging
  step_exchanging step failed old new answer sound exchanging (inr (inr (there, row))) = row_exchanging step failed old new answer sound exchanging row
