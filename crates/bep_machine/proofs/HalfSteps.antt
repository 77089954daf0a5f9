-- The halves of an event, of all devices and links, are its step.
use Rattle.std.proofs.Common.{◌≡◌, ◌⊎◌, ◌==◌, ◌&&◌, ◌||◌, ℕ, Bool, true, false, nat_lt, if◌then◌else◌, Option, Some, None, refl, sym, ap, ◌∙◌, inl, inr, ⊎_elim, eqb-true}
use Rattle.std.proofs.lemmas.Bool.{and_parts, eq-eqb}
use Rattle.std.specs.Cmp.Lexicographic.{nat_list_cmp_total}
use Rattle.std.specs.FinMap.{get}
use Rattle.std.proofs.lemmas.Map.Lookups.{exact_bytes}
use Rattle.std.proofs.lemmas.Option.{same_Some}
use Rattle.bep_facts.specs.Maps.{get-insert_here}
use Rattle.bep_model.specs.Tables.{Device, Folder}
use Rattle.bep_machine.specs.declared.step.Step.{Step}
use Rattle.bep_machine.specs.declared.step.Step.TheVariants.{Edit, Remove, Scan, Override, Revert, Connect, Lose, Begin, Deliver, Announce, StartPull, Ask, Finish, Restart, Reset}
use Rattle.bep_machine.specs.declared.moved.Moved.TheVariants.{Changed}
use Rattle.bep_machine.specs.Answer.{Answer, Done, Refused, OutOfMemory, Row}
use Rattle.bep_machine.specs.Replica.{Replica}
use Rattle.bep_machine.specs.Local.{EditRow, RemoveRow, ScanRow, OverrideRow, RevertRow}
use Rattle.bep_machine.specs.Pull.{StartPullRow, FinishRow}
use Rattle.bep_machine.specs.Link.{Link, End, Lower, Upper, Sight, lost, sight_of, after_deed}
use Rattle.bep_machine.specs.Peer.{Peer, Acted, with_replica}
use Rattle.bep_machine.specs.Exchange.{BeginRow, DeliverRow, AnnounceRow, AskRow}
use Rattle.bep_machine.specs.Cluster.{Cluster, with_link, with_peer, without_links}
use Rattle.bep_machine.specs.Steps.{AtReplica, OverLink, AtLink, ConnectRow, LoseRow, RestartRow, restarted, HasIdFrom, ResetRow, reset_to, StepRow}
use Rattle.bep_machine.specs.declared.logged.Traffic.{Traffic}
use Rattle.bep_machine.specs.Halves.{has_answered, kept_told, failed_told, IsDone, SaysNoMore, deed_told, Ends, InFolder, ByTraffic, Carries, OnlyIf}
use Rattle.bep_machine.specs.HalfLaws.{IsMadeBy, HalvesMakeTheStep}
use Rattle.bep_machine.proofs.OnlyCall.{may_fail_told}
use Rattle.bep_machine.proofs.LinkDeeds.{RowSees, begin_sees, announce_sees, ask_sees, deliver_sees}

-- the step was done, or yet changed something
abbrev Happened : Cluster → Cluster → Answer → Type 0
Happened old new answer = IsDone answer ⊎ (¬ (new ≡ old))

-- how a step ended that is logged
pub done_told : (answer : Answer) → IsDone answer → kept_told answer ≡ false
done_told (Done moved) done = refl
done_told (Refused why) done = absurd done
done_told OutOfMemory done = absurd done

undone_told : (answer : Answer) → ¬ IsDone answer → kept_told answer ≡ true
undone_told (Done moved) undone = absurd (undone tt)
undone_told (Refused why) undone = refl
undone_told OutOfMemory undone = refl

ends_told : (kept : Bool) (answer : Answer) (before after : Replica) → Ends kept answer before after → (kept ≡ kept_told answer) × (IsDone answer ⊎ (¬ (after ≡ before)))
ends_told false answer before after done = (sym (done_told answer done), inl done)
ends_told true answer before after ends = (sym (undone_told answer ends.0), inr ends.1)

-- a replica that is put in its own place again is the one that was there
was_before : (peer : Peer) (folder : Folder) (before after : Replica) → get peer.replicas folder ≡ Some before → with_replica peer folder after ≡ peer → after ≡ before
was_before peer folder before after is same =
    let put : get (with_replica peer folder after).replicas folder ≡ Some after = get-insert_here nat_list_cmp_total exact_bytes peer.replicas folder after in
    same_Some after before (sym put ∙ ap (λ p. get p.replicas folder) same ∙ is)

-- clusters that are the same at each device and each pair of devices
pub same_cluster : (one other : Cluster) → one.config ≡ other.config → ((device : Device) → one.peer device ≡ other.peer device) → ((a b : Device) → one.link a b ≡ other.link a b) → one ≡ other
same_cluster one other config peers links = λ i. record { config = config i; peer = λ device. peers device i; link = λ a b. links a b i }

pub touched : {S : Type 0} {half : Type 0} (old new : S) (b : Bool) → b ≡ true → OnlyIf b half old new → half
touched old new true is step = step
touched old new false is step = absurd (cc)

pub untouched : {S : Type 0} (half : Type 0) {old new : S} (b : Bool) → b ≡ false → OnlyIf b half old new → new ≡ old
untouched half true is step = absurd (cc)
untouched half false is step = step

module _ (old new : Cluster) (device : Device) (Half : Device → Type 0) (peers : (one : Device) → OnlyIf (one == device) (Half one) (old.peer one) (new.peer one)) where
  pub at_device : Half device
  at_device = touched (old.peer device) (new.peer device) (device == device) (eq-eqb device device refl) (peers device)

  -- all other devices are as they were
  pub other_devices : (peer : Peer) → new.peer device ≡ peer → (one : Device) → new.peer one ≡ (if one == device then peer else old.peer one)
  other_devices peer is one = cases (one == device) refl
    where
      cases : (b : Bool) → (one == device) ≡ b → new.peer one ≡ (if b then peer else old.peer one)
      cases true same = ap new.peer (eqb-true one device same) ∙ is
      cases false apart = untouched (Half one) (one == device) apart (peers one)

module _ (old new : Cluster) (lower upper : Device) (Half : Device → Device → Type 0) (links : (a b : Device) → OnlyIf ((a == lower) && (b == upper)) (Half a b) (old.link a b) (new.link a b)) where
  pub at_link : Half lower upper
  at_link = touched (old.link lower upper) (new.link lower upper) ((lower == lower) && (upper == upper)) (λ i. eq-eqb lower lower refl i && eq-eqb upper upper refl i) (links lower upper)

  -- all other links are as they were
  pub other_links : (link : Link) → new.link lower upper ≡ link → (a b : Device) → new.link a b ≡ (if (a == lower) && (b == upper) then link else old.link a b)
  other_links link is a b = cases ((a == lower) && (b == upper)) refl
    where
      cases : (t : Bool) → ((a == lower) && (b == upper)) ≡ t → new.link a b ≡ (if t then link else old.link a b)
      cases true same =
          let both = and_parts (a == lower) (b == upper) same in
          (λ i. new.link (eqb-true a lower both.0 i) (eqb-true b upper both.1 i)) ∙ is
      cases false apart = untouched (Half a b) ((a == lower) && (b == upper)) apart (links a b)

module _ (old new : Cluster) (config : new.config ≡ old.config) (Says : Type 0) where
  -- ---- a step of a device alone

  in_folder : (device : Device) (folder : Folder) (row : Replica → Row Replica) (kept : Bool)
      → ((one : Device) → OnlyIf (one == device) (Says × InFolder folder row kept (old.peer one) (new.peer one)) (old.peer one) (new.peer one))
      → ((a b : Device) → new.link a b ≡ old.link a b)
      → (answer : Answer) × AtReplica device folder row old new answer × Says × (kept ≡ kept_told answer) × Happened old new answer
  in_folder device folder row kept peers links =
      let both = at_device old new device (λ one. Says × InFolder folder row kept (old.peer one) (new.peer one)) peers in
      let half = both.1 in
      let ended = ends_told kept half.2 half.0 half.1 half.5 in (
        half.2,
        (
          half.0,
          half.1,
          half.3,
          half.4,
          same_cluster new (with_peer old device (with_replica (old.peer device) folder half.1)) config
              (other_devices old new device (λ one. Says × InFolder folder row kept (old.peer one) (new.peer one)) peers (with_replica (old.peer device) folder half.1) half.6) links,
        ),
        both.0,
        ended.0,
        ⊎_elim (λ done. inl done) (λ moved. inr (λ same. moved (was_before (old.peer device) folder half.0 half.1 half.3 (sym half.6 ∙ ap (λ c. c.peer device) same)))) ended.1,
      )

  -- ---- a step over a link

  module _ (device : Device) (row : Sight → Peer → Row Acted) (sees : RowSees row) where
    carried : (end : End) (lower upper : Device) (traffic : Option Traffic)
        → ((one : Device) → OnlyIf (one == device) (Says × ByTraffic row traffic (old.peer one) (new.peer one)) (old.peer one) (new.peer one))
        → ((a b : Device) → OnlyIf ((a == lower) && (b == upper)) (Says × Carries end traffic (old.link a b) (new.link a b)) (old.link a b) (new.link a b))
        → (answer : Answer) × ((acted : Acted) × row (sight_of end (old.link lower upper)) (old.peer device) acted answer ×
        (new ≡ with_link (with_peer old device acted.peer) lower upper (after_deed end acted.deed (old.link lower upper)))) × Says × IsDone answer
    carried end lower upper None peers links =
        absurd ((at_device old new device (λ one. Says × ByTraffic row None (old.peer one) (new.peer one)) peers).1)
    carried end lower upper (Some traffic) peers links =
        let both = at_device old new device (λ one. Says × ByTraffic row (Some traffic) (old.peer one) (new.peer one)) peers in
        let half = both.1 in
        let carries = (at_link old new lower upper (λ a b. Says × Carries end (Some traffic) (old.link a b) (new.link a b)) links).1 in
        let acted : Acted = record { peer = new.peer device; deed = deed_told traffic.done } in (
          Done half.0,
          (
            acted,
            sees (sight_of end (old.link lower upper)) traffic (old.peer device) (new.peer device) half.0 carries.0 carries.1 carries.2 half.1,
            same_cluster new (with_link (with_peer old device acted.peer) lower upper (after_deed end acted.deed (old.link lower upper))) config
                (other_devices old new device (λ one. Says × ByTraffic row (Some traffic) (old.peer one) (new.peer one)) peers (new.peer device) refl)
                (other_links old new lower upper (λ a b. Says × Carries end (Some traffic) (old.link a b) (new.link a b)) links (after_deed end acted.deed (old.link lower upper)) carries.3),
          ),
          both.0,
          tt,
        )

    over_link : (other : Device) (traffic : Option Traffic)
        → ((one : Device) → OnlyIf (one == device) (Says × ByTraffic row traffic (old.peer one) (new.peer one)) (old.peer one) (new.peer one))
        → ((a b : Device) → OnlyIf (if nat_lt device other then (a == device) && (b == other) else (a == other) && (b == device)) (Says × Carries (if nat_lt device other then Lower else Upper) traffic (old.link a b) (new.link a b)) (old.link a b) (new.link a b))
        → (answer : Answer) × OverLink device other row old new answer × Says × IsDone answer
    over_link other traffic peers = cases (nat_lt device other)
      where
        cases : (t : Bool)
            → ((a b : Device) → OnlyIf (if t then (a == device) && (b == other) else (a == other) && (b == device)) (Says × Carries (if t then Lower else Upper) traffic (old.link a b) (new.link a b)) (old.link a b) (new.link a b))
            → (answer : Answer) × ((acted : Acted) × row (sight_of (if t then Lower else Upper) (if t then old.link device other else old.link other device)) (old.peer device) acted answer ×
            (new ≡ (if t then with_link (with_peer old device acted.peer) device other (after_deed (if t then Lower else Upper) acted.deed (if t then old.link device other else old.link other device)) else with_link (with_peer old device acted.peer) other device (after_deed (if t then Lower else Upper) acted.deed (if t then old.link device other else old.link other device))))) × Says × IsDone answer
        cases true links = carried Lower device other traffic peers links
        cases false links = carried Upper other device traffic peers links

  -- ---- a step of a link

  of_link : (lower upper : Device) (row : Link → Row Link)
      → ((one : Device) → new.peer one ≡ old.peer one)
      → ((a b : Device) → OnlyIf ((a == lower) && (b == upper)) (Says × row (old.link a b) (new.link a b) (Done Changed)) (old.link a b) (new.link a b))
      → (answer : Answer) × AtLink lower upper row old new answer × Says × IsDone answer
  of_link lower upper row peers links =
      let both = at_link old new lower upper (λ a b. Says × row (old.link a b) (new.link a b) (Done Changed)) links in (
        Done Changed,
        (
          new.link lower upper,
          both.1,
          same_cluster new (with_link old lower upper (new.link lower upper)) config peers
              (other_links old new lower upper (λ a b. Says × row (old.link a b) (new.link a b) (Done Changed)) links (new.link lower upper) refl),
        ),
        both.0,
        tt,
      )

  -- ---- a device with its links

  links_lost : (device : Device) → ((a b : Device) → OnlyIf ((a == device) || (b == device)) (Says × (new.link a b ≡ lost (old.link a b))) (old.link a b) (new.link a b))
      → (a b : Device) → new.link a b ≡ (if (a == device) || (b == device) then lost (old.link a b) else old.link a b)
  links_lost device links a b = cases ((a == device) || (b == device)) (links a b)
    where
      cases : (t : Bool) → OnlyIf t (Says × (new.link a b ≡ lost (old.link a b))) (old.link a b) (new.link a b) → new.link a b ≡ (if t then lost (old.link a b) else old.link a b)
      cases true step = step.1
      cases false step = step

  of_restart : (device : Device)
      → ((one : Device) → OnlyIf (one == device) (Says × (new.peer one ≡ restarted (old.peer one))) (old.peer one) (new.peer one))
      → ((a b : Device) → OnlyIf ((a == device) || (b == device)) (Says × (new.link a b ≡ lost (old.link a b))) (old.link a b) (new.link a b))
      → (answer : Answer) × RestartRow device old new answer × Says × IsDone answer
  of_restart device peers links =
      let both = at_device old new device (λ one. Says × (new.peer one ≡ restarted (old.peer one))) peers in (
        Done Changed,
        (
          same_cluster new (without_links (with_peer old device (restarted (old.peer device))) device) config
              (other_devices old new device (λ one. Says × (new.peer one ≡ restarted (old.peer one))) peers (restarted (old.peer device)) both.1)
              (links_lost device links),
          refl,
        ),
        both.0,
        tt,
      )

  of_reset : (device : Device) (id : ℕ)
      → ((one : Device) → OnlyIf (one == device) (Says × ((¬ HasIdFrom id (old.peer one)) × (new.peer one ≡ reset_to id (old.peer one)))) (old.peer one) (new.peer one))
      → ((a b : Device) → OnlyIf ((a == device) || (b == device)) (Says × (new.link a b ≡ lost (old.link a b))) (old.link a b) (new.link a b))
      → (answer : Answer) × ResetRow device id old new answer × Says × IsDone answer
  of_reset device id peers links =
      let both = at_device old new device (λ one. Says × ((¬ HasIdFrom id (old.peer one)) × (new.peer one ≡ reset_to id (old.peer one)))) peers in (
        Done Changed,
        inr (
          both.1.0,
          (
            same_cluster new (without_links (with_peer old device (reset_to id (old.peer device))) device) config
                (other_devices old new device (λ one. Says × ((¬ HasIdFrom id (old.peer one)) × (new.peer one ≡ reset_to id (old.peer one)))) peers (reset_to id (old.peer device)) both.1.1)
                (links_lost device links),
            refl,
          ),
        ),
        both.0,
        tt,
      )

-- ---- every step

-- the event tells of no other call than it has to tell of
says_call : (step : Step) (failed : Option ℕ) (kept : Bool) (traffic : Option Traffic) → SaysNoMore step failed kept traffic → failed ≡ failed_told step kept traffic failed
says_call (Edit device folder name node) failed kept traffic says = says.0
says_call (Remove device folder name) failed kept traffic says = says.0
says_call (Scan device folder name) failed kept traffic says = says.0
says_call (Override device folder name) failed kept traffic says = says.0
says_call (Revert device folder name) failed kept traffic says = says.0
says_call (Connect one other) failed kept traffic says = says.0
says_call (Lose one other) failed kept traffic says = says.0
says_call (Begin device other) failed kept traffic says = says.0
says_call (Deliver device other) failed kept traffic says = may_fail_told (has_answered traffic) 1 failed says.0
says_call (Announce device other folder) failed kept traffic says = says.0
says_call (StartPull device folder name) failed kept traffic says = says.0
says_call (Ask device other folder name) failed kept traffic says = says.0
says_call (Finish device folder name) failed kept traffic says = may_fail_told kept 4 failed says.0
says_call (Restart device) failed kept traffic says = says.0
says_call (Reset device id) failed kept traffic says = says.0

-- what an event makes of a cluster
abbrev Makes : Step → Option ℕ → Bool → Option Traffic → Cluster → Cluster → Type 0
Makes step failed kept traffic old new =
    (answer : Answer) × StepRow step failed old new answer × SaysNoMore step failed kept traffic × (kept ≡ kept_told answer) × Happened old new answer

-- so it is where the step was done
done_makes : (step : Step) (failed : Option ℕ) (kept : Bool) (traffic : Option Traffic) (old new : Cluster) → (SaysNoMore step failed kept traffic → kept ≡ false)
    → (answer : Answer) × StepRow step failed old new answer × SaysNoMore step failed kept traffic × IsDone answer → Makes step failed kept traffic old new
done_makes step failed kept traffic old new unkept made = (made.0, made.1, made.2, unkept made.2 ∙ sym (done_told made.0 made.3), inl made.3)

halves_make_row : (step : Step) (failed : Option ℕ) (kept : Bool) (traffic : Option Traffic) (old new : Cluster) → IsMadeBy (record { step = step; failed = failed; kept = kept; traffic = traffic }) old new → Makes step failed kept traffic old new
halves_make_row (Edit device folder name node) failed kept traffic old new made = in_folder old new made.config (SaysNoMore (Edit device folder name node) failed kept traffic) device folder (EditRow name node failed) kept made.peers made.links
halves_make_row (Remove device folder name) failed kept traffic old new made = in_folder old new made.config (SaysNoMore (Remove device folder name) failed kept traffic) device folder (RemoveRow name failed) kept made.peers made.links
halves_make_row (Scan device folder name) failed kept traffic old new made = in_folder old new made.config (SaysNoMore (Scan device folder name) failed kept traffic) device folder (ScanRow device name failed) kept made.peers made.links
halves_make_row (Override device folder name) failed kept traffic old new made = in_folder old new made.config (SaysNoMore (Override device folder name) failed kept traffic) device folder (OverrideRow device name) kept made.peers made.links
halves_make_row (Revert device folder name) failed kept traffic old new made = in_folder old new made.config (SaysNoMore (Revert device folder name) failed kept traffic) device folder (RevertRow device name failed) kept made.peers made.links
halves_make_row (Connect one other) failed kept traffic old new made =
    done_makes (Connect one other) failed kept traffic old new (λ says. says.1)
    (of_link old new made.config (SaysNoMore (Connect one other) failed kept traffic) one other ConnectRow made.peers made.links)
halves_make_row (Lose one other) failed kept traffic old new made =
    done_makes (Lose one other) failed kept traffic old new (λ says. says.1)
    (of_link old new made.config (SaysNoMore (Lose one other) failed kept traffic) one other LoseRow made.peers made.links)
halves_make_row (Begin device other) failed kept traffic old new made =
    done_makes (Begin device other) failed kept traffic old new (λ says. says.1)
    (over_link old new made.config (SaysNoMore (Begin device other) failed kept traffic) device (BeginRow other) (begin_sees other) other traffic made.peers made.links)
halves_make_row (Deliver device other) failed kept traffic old new made =
    done_makes (Deliver device other) failed kept traffic old new (λ says. says.1)
    (over_link old new made.config (SaysNoMore (Deliver device other) failed kept traffic) device (DeliverRow other failed) (deliver_sees other failed) other traffic made.peers made.links)
halves_make_row (Announce device other folder) failed kept traffic old new made =
    done_makes (Announce device other folder) failed kept traffic old new (λ says. says.1)
    (over_link old new made.config (SaysNoMore (Announce device other folder) failed kept traffic) device (AnnounceRow other folder) (announce_sees other folder) other traffic made.peers made.links)
halves_make_row (StartPull device folder name) failed kept traffic old new made = in_folder old new made.config (SaysNoMore (StartPull device folder name) failed kept traffic) device folder (StartPullRow device name) kept made.peers made.links
halves_make_row (Ask device other folder name) failed kept traffic old new made =
    done_makes (Ask device other folder name) failed kept traffic old new (λ says. says.1)
    (over_link old new made.config (SaysNoMore (Ask device other folder name) failed kept traffic) device (AskRow other folder name) (ask_sees other folder name) other traffic made.peers made.links)
halves_make_row (Finish device folder name) failed kept traffic old new made = in_folder old new made.config (SaysNoMore (Finish device folder name) failed kept traffic) device folder (FinishRow device name failed) kept made.peers made.links
halves_make_row (Restart device) failed kept traffic old new made =
    done_makes (Restart device) failed kept traffic old new (λ says. says.1)
    (of_restart old new made.config (SaysNoMore (Restart device) failed kept traffic) device made.peers made.links)
halves_make_row (Reset device id) failed kept traffic old new made =
    done_makes (Reset device id) failed kept traffic old new (λ says. says.1)
    (of_reset old new made.config (SaysNoMore (Reset device id) failed kept traffic) device id made.peers made.links)

pub halves_make_the_step_lem : HalvesMakeTheStep
halves_make_the_step_lem one old new there made =
    let row = halves_make_row one.step one.failed one.kept one.traffic old new made in
    let call : one.failed ≡ failed_told one.step (kept_told row.0) one.traffic one.failed =
    says_call one.step one.failed one.kept one.traffic row.2 ∙ ap (λ kept. failed_told one.step kept one.traffic one.failed) row.3
    in (
      row.0,
      inr (inr ((λ missing. missing there), row.1)),
      (λ i. record { step = one.step; failed = call i; kept = row.3 i; traffic = one.traffic }),
      row.4,
    )
