-- Every step changes nothing and isn't done, or an event tells of it, whose halves all devices and links make.
use Rattle.std.proofs.Common.{◌≡◌, ◌⊎◌, ◌==◌, ◌&&◌, ◌||◌, ℕ, Bool, true, false, cond, nat_lt, if◌then◌else◌, Option, Some, None, refl, sym, ap, subst, ◌∙◌, inl, inr, ⊎_elim, eqb-true}
use Rattle.std.proofs.lemmas.Bool.{and_parts}
use Rattle.std.specs.Ordering.{nat_cmp, eq_by_cmp}
use Rattle.std.specs.Cmp.Lexicographic.{slice_cmp, nat_list_cmp_total}
use Rattle.std.specs.FinMap.{get, insert, get-insert, same_map}
use Rattle.std.proofs.lemmas.Map.Lookups.{exact_bytes}
use Rattle.bep_facts.specs.Maps.{same_key}
use Rattle.bep_map.specs.NameMap.{ByName}
use Rattle.bep_model.specs.Tables.{Device, Folder}
use Rattle.bep_machine.specs.declared.step.Step.{Step}
use Rattle.bep_machine.specs.declared.step.Step.TheVariants.{Edit, Remove, Scan, Override, Revert, Connect, Lose, Begin, Deliver, Announce, StartPull, Ask, Finish, Restart, Reset}
use Rattle.bep_machine.specs.declared.moved.Moved.TheVariants.{Changed}
use Rattle.bep_machine.specs.Answer.{Answer, Done, Refused, OutOfMemory, Row}
use Rattle.bep_machine.specs.Replica.{Replica}
use Rattle.bep_machine.specs.Local.{EditRow, RemoveRow, ScanRow, OverrideRow, RevertRow}
use Rattle.bep_machine.specs.Pull.{StartPullRow, FinishRow}
use Rattle.bep_machine.specs.Link.{Link, End, Lower, Upper, Sight, lost, nothing_done, end_of, sight_of, after_deed}
use Rattle.bep_machine.specs.Peer.{Peer, Acted, idle, with_replica}
use Rattle.bep_machine.specs.Exchange.{BeginRow, DeliverRow, AnnounceRow, AskRow}
use Rattle.bep_machine.specs.Cluster.{Cluster, link_between, with_link, with_link_between, with_peer}
use Rattle.bep_machine.specs.Steps.{IsThere, AtReplica, OverLink, AtLink, ConnectRow, LoseRow, RestartRow, restarted, HasIdFrom, ResetRow, reset_to, StepRow}
use Rattle.bep_machine.specs.declared.logged.Logged.{Logged}
use Rattle.bep_machine.specs.declared.logged.Traffic.{Traffic}
use Rattle.bep_machine.specs.Halves.{has_answered, kept_told, only_call, failed_told, logged_of, IsDone, SaysNoMore, Ends, InFolder, ByTraffic, Carries, OnlyIf}
use Rattle.bep_machine.specs.HalfLaws.{IsMadeBy, StepHasHalves}
use Rattle.bep_machine.proofs.RowsTold.{RowTold, edit_told, remove_told, scan_told, override_told, revert_told, start_pull_told, finished_told}
use Rattle.bep_machine.proofs.LinkDeeds.{RowTells, begin_tells, announce_tells, ask_tells, deliver_tells}
use Rattle.bep_machine.proofs.ActedEnds.{Rests, begin_rests, announce_rests, ask_rests, deliver_rests}
use Rattle.bep_machine.proofs.CallsTold.{call_is_told}
use Rattle.bep_machine.proofs.OnlyCall.{told_may_fail}
use Rattle.bep_machine.proofs.ThereDecided.{there_decided}
use Rattle.bep_machine.proofs.HalfSteps.{done_told, same_cluster}

-- a step isn't done and changes nothing, or is of an event that all objects make
abbrev pub HasHalves : Step → Option ℕ → Cluster → Cluster → Answer → Type 0
HasHalves step failed old new answer =
    ((¬ IsDone answer) × (new ≡ old)) ⊎
    ((traffic : Option Traffic) × IsThere old.config step × IsMadeBy (logged_of (record { step = step; failed = failed; answer = answer }) traffic) old new)

-- ---- what stays

insert_again : {V : Type 0} (m : ByName V) (key : _) (value : V) → get m key ≡ Some value → insert m key value ≡ m
insert_again m key value is = same_map nat_list_cmp_total exact_bytes (insert m key value) m
    (λ other. get-insert nat_list_cmp_total m key value other ∙ cases other (eq_by_cmp (slice_cmp nat_cmp) other key) refl)
  where
    cases : (other : _) (b : Bool) → eq_by_cmp (slice_cmp nat_cmp) other key ≡ b → cond b (Some value) (get m other) ≡ get m other
    cases other true tied = sym is ∙ ap (get m) (sym (same_key exact_bytes other key tied))
    cases other false tied = refl

same_peers : (old : Cluster) (device : Device) (peer : Peer) → peer ≡ old.peer device → (one : Device) → (if one == device then peer else old.peer one) ≡ old.peer one
same_peers old device peer is one = cases (one == device) refl
  where
    cases : (b : Bool) → (one == device) ≡ b → (if b then peer else old.peer one) ≡ old.peer one
    cases true same = is ∙ ap old.peer (sym (eqb-true one device same))
    cases false apart = refl

pub same_links : (old : Cluster) (lower upper : Device) (link : Link) → link ≡ old.link lower upper → (a b : Device) → (if (a == lower) && (b == upper) then link else old.link a b) ≡ old.link a b
same_links old lower upper link is a b = cases ((a == lower) && (b == upper)) refl
  where
    cases : (t : Bool) → ((a == lower) && (b == upper)) ≡ t → (if t then link else old.link a b) ≡ old.link a b
    cases true same =
        let both = and_parts (a == lower) (b == upper) same in
        is ∙ ap (λ d. old.link d upper) (sym (eqb-true a lower both.0)) ∙ ap (λ d. old.link a d) (sym (eqb-true b upper both.1))
    cases false apart = refl

no_deed : (end : End) (link : Link) → after_deed end nothing_done link ≡ link
no_deed Lower link = refl
no_deed Upper link = refl

-- the folder's replica in its own place again, and nothing done to device and link
pub put_again : (old : Cluster) (device : Device) (folder : Folder) (before after : Replica) → get (old.peer device).replicas folder ≡ Some before → after ≡ before → with_peer old device (with_replica (old.peer device) folder after) ≡ old
put_again old device folder before after is stays =
    same_cluster (with_peer old device (with_replica (old.peer device) folder after)) old refl
    (same_peers old device (with_replica (old.peer device) folder after) (λ i. record (old.peer device) { replicas = (ap (insert (old.peer device).replicas folder) stays ∙ insert_again (old.peer device).replicas folder before is) i }))
    (λ a b. refl)

pub nothing_between : (old : Cluster) (device other : Device) (acted : Acted) → acted ≡ idle (old.peer device) → with_link_between (with_peer old device acted.peer) device other (after_deed (end_of device other) acted.deed (link_between old device other)) ≡ old
nothing_between old device other acted is =
    (λ i. with_link_between (with_peer old device (is i).peer) device other (after_deed (end_of device other) (is i).deed (link_between old device other))) ∙ cases (nat_lt device other)
  where
    cases : (t : Bool) →
        (if t then with_link (with_peer old device (old.peer device)) device other (after_deed (if t then Lower else Upper) nothing_done (if t then old.link device other else old.link other device))
        else with_link (with_peer old device (old.peer device)) other device (after_deed (if t then Lower else Upper) nothing_done (if t then old.link device other else old.link other device))) ≡ old
    cases true =
        same_cluster (with_link (with_peer old device (old.peer device)) device other (after_deed Lower nothing_done (old.link device other))) old refl
        (same_peers old device (old.peer device) refl) (same_links old device other (old.link device other) refl)
    cases false =
        same_cluster (with_link (with_peer old device (old.peer device)) other device (after_deed Upper nothing_done (old.link other device))) old refl
        (same_peers old device (old.peer device) refl) (same_links old other device (old.link other device) refl)

-- ---- what is touched

peers_made : (old : Cluster) (device : Device) (peer : Peer) (Half : Peer → Peer → Type 0) → Half (old.peer device) peer →
    (one : Device) → OnlyIf (one == device) (Half (old.peer one) (if one == device then peer else old.peer one)) (old.peer one) (if one == device then peer else old.peer one)
peers_made old device peer Half half one = cases (one == device) refl
  where
    cases : (b : Bool) → (one == device) ≡ b → OnlyIf b (Half (old.peer one) (if b then peer else old.peer one)) (old.peer one) (if b then peer else old.peer one)
    cases true same = subst (λ d. Half (old.peer d) peer) (sym (eqb-true one device same)) half
    cases false apart = refl

links_made : (old : Cluster) (lower upper : Device) (link : Link) (Half : Link → Link → Type 0) → Half (old.link lower upper) link →
    (a b : Device) → OnlyIf ((a == lower) && (b == upper)) (Half (old.link a b) (if (a == lower) && (b == upper) then link else old.link a b)) (old.link a b) (if (a == lower) && (b == upper) then link else old.link a b)
links_made old lower upper link Half half a b = cases ((a == lower) && (b == upper)) refl
  where
    cases : (t : Bool) → ((a == lower) && (b == upper)) ≡ t → OnlyIf t (Half (old.link a b) (if t then link else old.link a b)) (old.link a b) (if t then link else old.link a b)
    cases true same =
        let both = and_parts (a == lower) (b == upper) same in
        subst (λ d. Half (old.link d b) link) (sym (eqb-true a lower both.0)) (subst (λ d. Half (old.link lower d) link) (sym (eqb-true b upper both.1)) half)
    cases false apart = refl

-- ---- a step of a device alone

module _ (device : Device) (folder : Folder) (row told : Replica → Row Replica) (Says : Type 0) (old new : Cluster) (answer : Answer) where
  -- the device makes its half, and the links stay
  record FolderMade (later : Cluster) : Type 0 where
    pub config : later.config ≡ old.config
    pub peers : (one : Device) → OnlyIf (one == device) (Says × InFolder folder told (kept_told answer) (old.peer one) (later.peer one)) (old.peer one) (later.peer one)
    pub links : (a b : Device) → later.link a b ≡ old.link a b

  folder_made : ((before after : Replica) → row before after answer → ((¬ IsDone answer) × (after ≡ before)) ⊎ (Says × told before after answer × Ends (kept_told answer) answer before after))
      → AtReplica device folder row old new answer → ((¬ IsDone answer) × (new ≡ old)) ⊎ FolderMade new
  folder_made tells (before, after, is, made, same) =
      ⊎_elim
      (λ stays. inl (stays.0, same ∙ put_again old device folder before after is stays.1))
      (λ half. inr (subst (λ c. FolderMade c) (sym same) (happens half.0 half.1 half.2)))
      (tells before after made)
    where
      changed : Peer
      changed = with_replica (old.peer device) folder after

      happens : Says → told before after answer → Ends (kept_told answer) answer before after → FolderMade (with_peer old device changed)
      happens says makes ends = record {
        config = refl;
        peers = peers_made old device changed (λ was is. Says × InFolder folder told (kept_told answer) was is) (says, (before, after, answer, is, makes, ends, refl));
        links = λ a b. refl;
      }

-- ---- a step over a link

module _ (device other : Device) (row : Sight → Peer → Row Acted) (tells : RowTells row) (rests : Rests row) (told : Option Traffic → Sight → Peer → Row Acted) (tell : (traffic : Option Traffic) (old new : Peer) → ByTraffic row traffic old new → ByTraffic (told traffic) traffic old new)
    (Says : Option Traffic → Type 0) (old new : Cluster) (answer : Answer) (says : (traffic : Option Traffic) → IsDone answer → Says traffic) where
  -- the device and the link make their halves
  record LinkMade (traffic : Option Traffic) (later : Cluster) : Type 0 where
    pub config : later.config ≡ old.config
    pub peers : (one : Device) → OnlyIf (one == device) (Says traffic × ByTraffic (told traffic) traffic (old.peer one) (later.peer one)) (old.peer one) (later.peer one)
    pub links : (a b : Device) →
        OnlyIf (if nat_lt device other then (a == device) && (b == other) else (a == other) && (b == device))
        (Says traffic × Carries (end_of device other) traffic (old.link a b) (later.link a b)) (old.link a b) (later.link a b)

  links_between : (traffic : Option Traffic) (acted : Acted) → Says traffic →
      Carries (end_of device other) traffic (link_between old device other) (after_deed (end_of device other) acted.deed (link_between old device other)) → (a b : Device) →
      OnlyIf (if nat_lt device other then (a == device) && (b == other) else (a == other) && (b == device))
      (Says traffic × Carries (end_of device other) traffic (old.link a b) ((with_link_between (with_peer old device acted.peer) device other (after_deed (end_of device other) acted.deed (link_between old device other))).link a b))
      (old.link a b) ((with_link_between (with_peer old device acted.peer) device other (after_deed (end_of device other) acted.deed (link_between old device other))).link a b)
  links_between traffic acted tells_right = cases (nat_lt device other)
    where
      after : Bool → Cluster
      after t =
          let at : End = if t then Lower else Upper in
          let between : Link = if t then old.link device other else old.link other device in
          if t then with_link (with_peer old device acted.peer) device other (after_deed at acted.deed between) else with_link (with_peer old device acted.peer) other device (after_deed at acted.deed between)

      cases : (t : Bool) → Carries (if t then Lower else Upper) traffic (if t then old.link device other else old.link other device) (after_deed (if t then Lower else Upper) acted.deed (if t then old.link device other else old.link other device)) → (a b : Device) →
          OnlyIf (if t then (a == device) && (b == other) else (a == other) && (b == device))
          (Says traffic × Carries (if t then Lower else Upper) traffic (old.link a b) ((after t).link a b)) (old.link a b) ((after t).link a b)
      cases true carries = links_made old device other (after_deed Lower acted.deed (old.link device other)) (λ was is. Says traffic × Carries Lower traffic was is) (tells_right, carries)
      cases false carries = links_made old other device (after_deed Upper acted.deed (old.link other device)) (λ was is. Says traffic × Carries Upper traffic was is) (tells_right, carries)

  link_made : OverLink device other row old new answer → ((¬ IsDone answer) × (new ≡ old)) ⊎ ((traffic : Option Traffic) × LinkMade traffic new)
  link_made (acted, made, same) = cases answer refl
    where
      sight : Sight
      sight = sight_of (end_of device other) (link_between old device other)

      rested : ¬ IsDone answer → ((¬ IsDone answer) × (new ≡ old)) ⊎ ((traffic : Option Traffic) × LinkMade traffic new)
      rested undone = inl (undone, same ∙ nothing_between old device other acted (rests sight (old.peer device) acted answer made undone))

      cases : (given : Answer) → answer ≡ given → ((¬ IsDone answer) × (new ≡ old)) ⊎ ((traffic : Option Traffic) × LinkMade traffic new)
      cases (Done moved) is =
          let tale = tells sight (old.peer device) acted moved (subst (λ a. row sight (old.peer device) acted a) is made) in
          let traffic : Traffic = record { epoch = sight.epoch; done = tale.0 } in
          let tells_right = says (Some traffic) (subst IsDone (sym is) tt) in
          inr (
            Some traffic,
            subst (λ c. LinkMade (Some traffic) c) (sym same)
                (record {
                  config = kept_config (nat_lt device other);
                  peers = kept_peers (nat_lt device other) (Some traffic) tells_right (tell (Some traffic) (old.peer device) acted.peer (moved, tale.4));
                  links = links_between (Some traffic) acted tells_right (tale.1, refl, tale.2, ap (λ deed. after_deed (end_of device other) deed (link_between old device other)) tale.3);
                }),
          )
        where
          later : Bool → Cluster
          later t =
              let between : Link = after_deed (end_of device other) acted.deed (link_between old device other) in
              if t then with_link (with_peer old device acted.peer) device other between else with_link (with_peer old device acted.peer) other device between

          kept_config : (t : Bool) → (later t).config ≡ old.config
          kept_config true = refl
          kept_config false = refl

          kept_peers : (t : Bool) (traffic : Option Traffic) → Says traffic → ByTraffic (told traffic) traffic (old.peer device) acted.peer → (one : Device) →
              OnlyIf (one == device) (Says traffic × ByTraffic (told traffic) traffic (old.peer one) ((later t).peer one)) (old.peer one) ((later t).peer one)
          kept_peers true traffic right half = peers_made old device acted.peer (λ was is. Says traffic × ByTraffic (told traffic) traffic was is) (right, half)
          kept_peers false traffic right half = peers_made old device acted.peer (λ was is. Says traffic × ByTraffic (told traffic) traffic was is) (right, half)
      cases (Refused why) is = rested (λ done. subst IsDone is done)
      cases OutOfMemory is = rested (λ done. subst IsDone is done)

-- ---- a step of a link

module _ (lower upper : Device) (row : Link → Row Link) (ends : (before after : Link) (answer : Answer) → row before after answer → ((¬ IsDone answer) × (after ≡ before)) ⊎ (IsDone answer × row before after (Done Changed)))
    (Says : Type 0) (old new : Cluster) (answer : Answer) (says : IsDone answer → Says) where
  record OneLinkMade (later : Cluster) : Type 0 where
    pub config : later.config ≡ old.config
    pub peers : (one : Device) → later.peer one ≡ old.peer one
    pub links : (a b : Device) → OnlyIf ((a == lower) && (b == upper)) (Says × row (old.link a b) (later.link a b) (Done Changed)) (old.link a b) (later.link a b)

  one_link_made : AtLink lower upper row old new answer → ((¬ IsDone answer) × (new ≡ old)) ⊎ OneLinkMade new
  one_link_made (after, made, same) =
      ⊎_elim
      (λ stays. inl (stays.0, same ∙ same_cluster (with_link old lower upper after) old refl (λ one. refl) (same_links old lower upper after stays.1)))
      (λ done. inr (subst (λ c. OneLinkMade c) (sym same)
      (record { config = refl; peers = λ one. refl; links = links_made old lower upper after (λ was is. Says × row was is (Done Changed)) (says done.0, done.1) })))
      (ends (old.link lower upper) after answer made)

connect_ends : (before after : Link) (answer : Answer) → ConnectRow before after answer → ((¬ IsDone answer) × (after ≡ before)) ⊎ (IsDone answer × ConnectRow before after (Done Changed))
connect_ends before after answer (inl up) = inl ((λ done. subst IsDone up.1.1 done), up.1.0)
connect_ends before after answer (inr (down, inl full)) = inl ((λ done. subst IsDone full.1.1 done), full.1.0)
connect_ends before after answer (inr (down, inr (more, made))) = inr (subst IsDone (sym made.1) tt, inr (down, inr (more, (made.0, refl))))

lose_ends : (before after : Link) (answer : Answer) → LoseRow before after answer → ((¬ IsDone answer) × (after ≡ before)) ⊎ (IsDone answer × LoseRow before after (Done Changed))
lose_ends before after answer (inl down) = inl ((λ done. subst IsDone down.1.1 done), down.1.0)
lose_ends before after answer (inr (up, made)) = inr (subst IsDone (sym made.1) tt, inr (up, (made.0, refl)))

-- ---- every step

module _ (old new : Cluster) (answer : Answer) where
  -- what is logged of the step
  abbrev event_of : Step → Option ℕ → Option Traffic → Logged
  event_of step failed traffic = logged_of (record { step = step; failed = failed; answer = answer }) traffic

  abbrev SaysRight : Step → Option ℕ → Option Traffic → Type 0
  SaysRight step failed traffic = SaysNoMore step (failed_told step (kept_told answer) traffic failed) (kept_told answer) traffic

  of_folder : (device : Device) (folder : Folder) (row told : Replica → Row Replica) (step : Step) (there : IsThere old.config step) (failed : Option ℕ)
      → (FolderMade device folder row told (SaysRight step failed None) old new answer new → IsMadeBy (event_of step failed None) old new)
      → ((before after : Replica) → row before after answer → RowTold step (failed_told step (kept_told answer) None failed) (told before) before after answer)
      → AtReplica device folder row old new answer → HasHalves step failed old new answer
  of_folder device folder row told step there failed made tells here =
      ⊎_elim (λ stays. inl stays) (λ half. inr (None, there, made half)) (folder_made device folder row told (SaysRight step failed None) old new answer tells here)

  over_link : (device other : Device) (row : Sight → Peer → Row Acted) (tells : RowTells row) (rests : Rests row) (told : Option Traffic → Sight → Peer → Row Acted)
      (tell : (traffic : Option Traffic) (old new : Peer) → ByTraffic row traffic old new → ByTraffic (told traffic) traffic old new)
      (step : Step) (there : IsThere old.config step) (failed : Option ℕ) (says : (traffic : Option Traffic) → IsDone answer → SaysRight step failed traffic)
      → ((traffic : Option Traffic) → LinkMade device other row tells rests told tell (SaysRight step failed) old new answer says traffic new → IsMadeBy (event_of step failed traffic) old new)
      → OverLink device other row old new answer → HasHalves step failed old new answer
  over_link device other row tells rests told tell step there failed says made here =
      ⊎_elim (λ stays. inl stays) (λ half. inr (half.0, there, made half.0 half.1)) (link_made device other row tells rests told tell (SaysRight step failed) old new answer says here)

  of_link : (lower upper : Device) (row : Link → Row Link) (ends : (before after : Link) (answer : Answer) → row before after answer → ((¬ IsDone answer) × (after ≡ before)) ⊎ (IsDone answer × row before after (Done Changed)))
      (step : Step) (there : IsThere old.config step) (failed : Option ℕ) (says : IsDone answer → SaysRight step failed None)
      → (OneLinkMade lower upper row ends (SaysRight step failed None) old new answer says new → IsMadeBy (event_of step failed None) old new)
      → AtLink lower upper row old new answer → HasHalves step failed old new answer
  of_link lower upper row ends step there failed says made here =
      ⊎_elim (λ stays. inl stays) (λ half. inr (None, there, made half)) (one_link_made lower upper row ends (SaysRight step failed None) old new answer says here)

  of_restart : (device : Device) → IsThere old.config (Restart device) → (failed : Option ℕ) → RestartRow device old new answer → HasHalves (Restart device) failed old new answer
  of_restart device there failed made =
      inr (
        None,
        there,
        subst (λ c. IsMadeBy (event_of (Restart device) failed None) old c) (sym made.0)
            (record {
              config = refl;
              peers = peers_made old device (restarted (old.peer device)) (λ was is. SaysRight (Restart device) failed None × (is ≡ restarted was)) (says, refl);
              links = λ a b. cases (old.link a b) ((a == device) || (b == device));
            }),
      )
    where
      says : SaysRight (Restart device) failed None
      says = (refl, done_told answer (subst IsDone (sym made.1) tt), refl)

      cases : (link : Link) (t : Bool) → OnlyIf t (SaysRight (Restart device) failed None × ((if t then lost link else link) ≡ lost link)) link (if t then lost link else link)
      cases link true = (says, refl)
      cases link false = refl

  of_reset : (device : Device) (id : ℕ) → IsThere old.config (Reset device id) → (failed : Option ℕ) → ResetRow device id old new answer → HasHalves (Reset device id) failed old new answer
  of_reset device id there failed (inl refused) = inl ((λ done. subst IsDone refused.1.1 done), refused.1.0)
  of_reset device id there failed (inr (above, made)) =
      inr (
        None,
        there,
        subst (λ c. IsMadeBy (event_of (Reset device id) failed None) old c) (sym made.0)
            (record {
              config = refl;
              peers = peers_made old device (reset_to id (old.peer device)) (λ was is. SaysRight (Reset device id) failed None × ((¬ HasIdFrom id was) × (is ≡ reset_to id was))) (says, (above, refl));
              links = λ a b. cases (old.link a b) ((a == device) || (b == device));
            }),
      )
    where
      says : SaysRight (Reset device id) failed None
      says = (refl, done_told answer (subst IsDone (sym made.1) tt), refl)

      cases : (link : Link) (t : Bool) → OnlyIf t (SaysRight (Reset device id) failed None × ((if t then lost link else link) ≡ lost link)) link (if t then lost link else link)
      cases link true = (says, refl)
      cases link false = refl

  row_has_halves : (step : Step) → IsThere old.config step → (failed : Option ℕ) → StepRow step failed old new answer → HasHalves step failed old new answer
  row_has_halves (Edit device folder name node) there failed =
      of_folder device folder (EditRow name node failed) (EditRow name node None) (Edit device folder name node) there failed
      (λ half. record { config = half.config; peers = half.peers; links = half.links }) (λ before after made. edit_told device folder name failed before after answer node made)
  row_has_halves (Remove device folder name) there failed =
      of_folder device folder (RemoveRow name failed) (RemoveRow name None) (Remove device folder name) there failed
      (λ half. record { config = half.config; peers = half.peers; links = half.links }) (λ before after made. remove_told device folder name failed before after answer made)
  row_has_halves (Scan device folder name) there failed =
      of_folder device folder (ScanRow device name failed) (ScanRow device name None) (Scan device folder name) there failed
      (λ half. record { config = half.config; peers = half.peers; links = half.links }) (λ before after made. scan_told device folder name failed before after answer made)
  row_has_halves (Override device folder name) there failed =
      of_folder device folder (OverrideRow device name) (OverrideRow device name) (Override device folder name) there failed
      (λ half. record { config = half.config; peers = half.peers; links = half.links }) (λ before after made. override_told device folder name failed before after answer made)
  row_has_halves (Revert device folder name) there failed =
      of_folder device folder (RevertRow device name failed) (RevertRow device name None) (Revert device folder name) there failed
      (λ half. record { config = half.config; peers = half.peers; links = half.links }) (λ before after made. revert_told device folder name failed before after answer made)
  row_has_halves (Connect one other) there failed =
      of_link one other ConnectRow connect_ends (Connect one other) there failed (λ done. (refl, done_told answer done, refl)) (λ half. record { config = half.config; peers = half.peers; links = half.links })
  row_has_halves (Lose one other) there failed =
      of_link one other LoseRow lose_ends (Lose one other) there failed (λ done. (refl, done_told answer done, refl)) (λ half. record { config = half.config; peers = half.peers; links = half.links })
  row_has_halves (Begin device other) there failed =
      over_link device other (BeginRow other) (begin_tells other) (begin_rests other) (λ traffic. BeginRow other) (λ traffic was is half. half) (Begin device other) there failed
      (λ traffic done. (refl, done_told answer done)) (λ traffic half. record { config = half.config; peers = half.peers; links = half.links })
  row_has_halves (Deliver device other) there failed =
      over_link device other (DeliverRow other failed) (deliver_tells other failed) (deliver_rests other failed) (λ traffic. DeliverRow other (only_call (has_answered traffic) 1 failed)) (call_is_told other failed) (Deliver device other) there failed
      (λ traffic done. (told_may_fail (has_answered traffic) 1 failed, done_told answer done)) (λ traffic half. record { config = half.config; peers = half.peers; links = half.links })
  row_has_halves (Announce device other folder) there failed =
      over_link device other (AnnounceRow other folder) (announce_tells other folder) (announce_rests other folder) (λ traffic. AnnounceRow other folder) (λ traffic was is half. half) (Announce device other folder) there failed
      (λ traffic done. (refl, done_told answer done)) (λ traffic half. record { config = half.config; peers = half.peers; links = half.links })
  row_has_halves (StartPull device folder name) there failed =
      of_folder device folder (StartPullRow device name) (StartPullRow device name) (StartPull device folder name) there failed
      (λ half. record { config = half.config; peers = half.peers; links = half.links }) (λ before after made. start_pull_told device folder name failed before after answer made)
  row_has_halves (Ask device other folder name) there failed =
      over_link device other (AskRow other folder name) (ask_tells other folder name) (ask_rests other folder name) (λ traffic. AskRow other folder name) (λ traffic was is half. half) (Ask device other folder name) there failed
      (λ traffic done. (refl, done_told answer done)) (λ traffic half. record { config = half.config; peers = half.peers; links = half.links })
  row_has_halves (Finish device folder name) there failed =
      of_folder device folder (FinishRow device name failed) (FinishRow device name (only_call (kept_told answer) 4 failed)) (Finish device folder name) there failed
      (λ half. record { config = half.config; peers = half.peers; links = half.links }) (λ before after made. finished_told device folder name failed before after answer made)
  row_has_halves (Restart device) there failed = of_restart device there failed
  row_has_halves (Reset device id) there failed = of_reset device id there failed

pub step_has_halves_lem : StepHasHalves
step_has_halves_lem made old new (inl (grows, same)) = inl ((λ done. subst IsDone same.1 done), same.0)
step_has_halves_lem made old new (inr (inl (missing, same))) = inl ((λ done. subst IsDone same.1 done), same.0)
step_has_halves_lem made old new (inr (inr (not_apart, row))) =
    ⊎_elim
    (λ there. row_has_halves old new made.answer made.step there made.failed row)
    (λ apart. absurd (not_apart apart))
    (there_decided old.config made.step)
