-- Steps over links and restarts: what each device learns, and what is sent.
use Rattle.std.proofs.Common.{◌≡◌, ◌⊎◌, ◌==◌, ◌||◌, ℕ, Bool, true, false, nat_lt, [], Option, Some, None, option_map, Contains, refl, sym, subst, inl, ⊎_elim, if◌then◌else◌}
use Rattle.std.proofs.lemmas.Cmp.{nat_list_cmp_total}
use Rattle.std.specs.Ordering.{nat_cmp}
use Rattle.std.specs.Cmp.Lexicographic.{slice_cmp}
use Rattle.std.specs.FinMap.{empty, get}
use Rattle.bep_facts.specs.Maps.{nothing_in_empty}
use Rattle.bep_record.specs.declared.entry.Entry.{Entry}
use Rattle.bep_index.specs.Laws.{FoundIsOfBatchOrBefore, AmongIsContained}
use Rattle.bep_model.specs.Tables.{Device, Folder, FileName}
use Rattle.bep_model.specs.Foreign.{IsFlying}
use Rattle.bep_machine.specs.declared.message.Message.{Message}
use Rattle.bep_machine.specs.Answer.{Answer, Row}
use Rattle.bep_machine.specs.Replica.{Pull, Replica, target_at}
use Rattle.bep_machine.specs.Link.{Sight, Link, end_of, sight_of, after_deed, connected, lost}
use Rattle.bep_machine.specs.Peer.{Peer, Acted}
use Rattle.bep_machine.specs.Exchange.{BeginRow, DeliverRow, AnnounceRow, AskRow}
use Rattle.bep_machine.specs.Cluster.{Cluster, link_between, with_link, with_link_between, with_peer}
use Rattle.bep_machine.specs.Steps.{AreLinked, OverLink, AtLink, ConnectRow, LoseRow, without_pulls, restarted, RestartRow}
use Rattle.bep_machine.specs.Said.{tables_of_cluster}
use Rattle.bep_machine.specs.Sound.{IsSound}
use Rattle.bep_machine.proofs.FoundAfter.{get-mapped}
use Rattle.bep_machine.proofs.Places.{each_after_change}
use Rattle.bep_machine.proofs.CalmRows.{at_answers, at_becomes}
use Rattle.bep_machine.proofs.CalmMoves.{ElsewhereIn}
use Rattle.bep_machine.proofs.ReadOn.{IsReadOn, AreReadOn, none_read, nothing_read}
use Rattle.bep_machine.proofs.LinkQueues.{LinkGoesOn, link_stays, nothing_on_its_way, each_link, links_after_deed}
use Rattle.bep_machine.proofs.LinkSteps.{CarriesOwn, IsLinkStep, begin_step, announce_step, ask_step, deliver_step}
use Rattle.bep_machine.proofs.Arrivals.{linked_is_there, records_fly}

-- a device of the cluster sends own records
abbrev pub SendsOwn : Cluster → Device → Device → Message → Type 0
SendsOwn cluster sender receiver message = Contains cluster.config.devices sender × CarriesOwn (cluster.peer sender) message

-- each device learns only what was on its way to it, and what is on its way was so before or is sent by a device of its own
pub record IsReadingStep (old new : Cluster) : Type 0 where
  pub config : new.config ≡ old.config
  pub reads : (device : Device) → AreReadOn (IsFlying (tables_of_cluster old) device) (old.peer device).replicas (new.peer device).replicas
  pub links : (lower upper : Device) → LinkGoesOn (SendsOwn old) lower upper (old.link lower upper) (new.link lower upper)

pub nothing_happens : (old : Cluster) → IsReadingStep old old
nothing_happens old = record {
  config = refl;
  reads = λ device. none_read (IsFlying (tables_of_cluster old) device) (old.peer device).replicas;
  links = λ lower upper. link_stays (SendsOwn old) lower upper (old.link lower upper);
}

-- ---- links come up and go down

link_step : (old : Cluster) (lower upper : Device) (link : Link) → link.to_lower ≡ [] → link.to_upper ≡ [] → IsReadingStep old (with_link old lower upper link)
link_step old lower upper link down up = record {
  config = refl;
  reads = (nothing_happens old).reads;
  links = each_link (λ one other link. LinkGoesOn (SendsOwn old) one other (old.link one other) link) old lower upper link
      (nothing_on_its_way (SendsOwn old) lower upper (old.link lower upper) link down up) (nothing_happens old).links;
}

same_link : (old : Cluster) (lower upper : Device) → IsReadingStep old (with_link old lower upper (old.link lower upper))
same_link old lower upper = record {
  config = refl;
  reads = (nothing_happens old).reads;
  links = each_link (λ one other link. LinkGoesOn (SendsOwn old) one other (old.link one other) link) old lower upper (old.link lower upper)
      ((nothing_happens old).links lower upper) (nothing_happens old).links;
}

pub connect_reads : (old new : Cluster) (lower upper : Device) (answer : Answer) → AtLink lower upper ConnectRow old new answer → IsReadingStep old new
connect_reads old new lower upper answer made = subst (λ one. IsReadingStep old one) (sym made.2) (
    at_answers (λ link. IsReadingStep old (with_link old lower upper link)) made.1 (same_link old lower upper)
    (λ _ down. at_answers (λ link. IsReadingStep old (with_link old lower upper link)) down (same_link old lower upper)
    (λ _ comes. at_becomes (λ link. IsReadingStep old (with_link old lower upper link)) comes (link_step old lower upper (connected (old.link lower upper)) refl refl))))

pub lose_reads : (old new : Cluster) (lower upper : Device) (answer : Answer) → AtLink lower upper LoseRow old new answer → IsReadingStep old new
lose_reads old new lower upper answer made = subst (λ one. IsReadingStep old one) (sym made.2) (
    at_answers (λ link. IsReadingStep old (with_link old lower upper link)) made.1 (same_link old lower upper)
    (λ _ goes. at_becomes (λ link. IsReadingStep old (with_link old lower upper link)) goes (link_step old lower upper (lost (old.link lower upper)) refl refl)))

-- ---- restart

replica_restarted : (peer : Peer) (folder : Folder) → get (restarted peer).replicas folder ≡ option_map without_pulls (get peer.replicas folder)
replica_restarted peer folder = get-mapped nat_list_cmp_total without_pulls peer.replicas folder

read_without_pulls : (Comes : FileName → Entry → Type 0) (replica : Option Replica) → IsReadOn Comes replica (option_map without_pulls replica)
read_without_pulls Comes None = nothing_read Comes None
read_without_pulls Comes (Some replica) = record {
  own = λ name. refl;
  node = λ name. refl;
  elsewhere = λ name entry has. ⊎_elim (λ viewed. inl (inl viewed)) (λ target. none_pulled name entry target) has;
}
  where
    none_pulled : (name : FileName) (entry : Entry) → target_at (without_pulls replica) name ≡ Some entry → ElsewhereIn (Some replica) name entry ⊎ Comes name entry
    none_pulled name entry target = cases (get {R = slice_cmp nat_cmp} empty name) refl target
      where
        cases : (found : Option Pull) → get {R = slice_cmp nat_cmp} empty name ≡ found → option_map (λ (pull : Pull). pull.target) found ≡ Some entry → ElsewhereIn (Some replica) name entry ⊎ Comes name entry
        cases None is target = absurd (cc)
        cases (Some pull) is target = nothing_in_empty (slice_cmp nat_cmp) name pull is

pub restart_reads : (old new : Cluster) (device : Device) (answer : Answer) → RestartRow device old new answer → IsReadingStep old new
restart_reads old new device answer made = at_becomes (IsReadingStep old) made (record {
  config = refl;
  reads = each_after_change (λ one peer. AreReadOn (IsFlying (tables_of_cluster old) one) (old.peer one).replicas peer.replicas)
      old.peer device (restarted (old.peer device))
      (λ folder. subst (λ replica. IsReadOn (IsFlying (tables_of_cluster old) device folder) (get (old.peer device).replicas folder) replica) (sym (replica_restarted (old.peer device) folder)) (read_without_pulls _ (get (old.peer device).replicas folder)))
      (nothing_happens old).reads;
  links = λ lower upper. cut lower upper ((lower == device) || (upper == device));
})
  where
    cut : (lower upper : Device) (b : Bool) → LinkGoesOn (SendsOwn old) lower upper (old.link lower upper) (if b then lost (old.link lower upper) else old.link lower upper)
    cut lower upper true = nothing_on_its_way (SendsOwn old) lower upper (old.link lower upper) (lost (old.link lower upper)) refl refl
    cut lower upper false = link_stays (SendsOwn old) lower upper (old.link lower upper)

-- ---- steps over a link

-- what a cluster has beside its links stays
stays : {A : Type 0} (part : Cluster → A) → ((cluster : Cluster) (lower upper : Device) (link : Link) → part (with_link cluster lower upper link) ≡ part cluster) →
    (cluster : Cluster) (device other : Device) (link : Link) → part (with_link_between cluster device other link) ≡ part cluster
stays part same cluster device other link = cases (nat_lt device other)
  where
    cases : (b : Bool) → part (if b then with_link cluster device other link else with_link cluster other device link) ≡ part cluster
    cases true = same cluster device other link
    cases false = same cluster other device link

config_stays : (cluster : Cluster) (device other : Device) (link : Link) → (with_link_between cluster device other link).config ≡ cluster.config
config_stays = stays (λ cluster. cluster.config) (λ _ _ _ _. refl)

peers_stay : (cluster : Cluster) (device other : Device) (link : Link) → (with_link_between cluster device other link).peer ≡ cluster.peer
peers_stay = stays (λ cluster. cluster.peer) (λ _ _ _ _. refl)

module _ (old : Cluster) (sound : IsSound old) (device other : Device) (linked : AreLinked old.config device other) where
  acted_reads : (acted : Acted) → IsLinkStep (IsFlying (tables_of_cluster old) device) (old.peer device) acted → IsReadingStep old (with_link_between (with_peer old device acted.peer) device other (after_deed (end_of device other) acted.deed (link_between old device other)))
  acted_reads acted step = record {
    config = config_stays (with_peer old device acted.peer) device other _;
    reads = subst (λ (peer : Device → Peer). (one : Device) → AreReadOn (IsFlying (tables_of_cluster old) one) (old.peer one).replicas (peer one).replicas)
        (sym (peers_stay (with_peer old device acted.peer) device other _))
        (each_after_change (λ one peer. AreReadOn (IsFlying (tables_of_cluster old) one) (old.peer one).replicas peer.replicas)
        old.peer device acted.peer step.reads (nothing_happens old).reads);
    links = links_after_deed (SendsOwn old) acted.deed (with_peer old device acted.peer) device other
        (λ message sends. (linked_is_there old sound device other linked, step.sends message sends));
  }

  over_link_reads : (row : Sight → Peer → Row Acted) (new : Cluster) (answer : Answer) → ((acted : Acted) → row (sight_of (end_of device other) (link_between old device other)) (old.peer device) acted answer → IsLinkStep (IsFlying (tables_of_cluster old) device) (old.peer device) acted) → OverLink device other row old new answer → IsReadingStep old new
  over_link_reads row new answer step made = subst (λ one. IsReadingStep old one) (sym made.2) (acted_reads made.0 (step made.0 made.1))

  pub begin_reads : (new : Cluster) (answer : Answer) → OverLink device other (BeginRow other) old new answer → IsReadingStep old new
  begin_reads new answer = over_link_reads (BeginRow other) new answer (λ acted made. begin_step _ _ other (sight_of (end_of device other) (link_between old device other)) acted answer made)

  pub announce_reads : (folder : Folder) (new : Cluster) (answer : Answer) → OverLink device other (AnnounceRow other folder) old new answer → IsReadingStep old new
  announce_reads folder new answer = over_link_reads (AnnounceRow other folder) new answer (λ acted made. announce_step _ _ other folder (sight_of (end_of device other) (link_between old device other)) acted answer made)

  pub ask_reads : (folder : Folder) (name : FileName) (new : Cluster) (answer : Answer) → OverLink device other (AskRow other folder name) old new answer → IsReadingStep old new
  ask_reads folder name new answer = over_link_reads (AskRow other folder name) new answer (λ acted made. ask_step _ _ other folder name (sight_of (end_of device other) (link_between old device other)) acted answer made)

  pub deliver_reads : FoundIsOfBatchOrBefore → AmongIsContained → (failed : Option ℕ) (new : Cluster) (answer : Answer) → OverLink device other (DeliverRow other failed) old new answer → IsReadingStep old new
  deliver_reads found among failed new answer =
      over_link_reads (DeliverRow other failed) new answer
      (λ acted made.
      deliver_step _ _ found other failed (sight_of (end_of device other) (link_between old device other)) acted answer
      (λ session message folder batch is waiting named kind name entry in_batch same.
      records_fly among old sound device other linked session message folder batch is waiting named kind name entry in_batch same)
      made)
