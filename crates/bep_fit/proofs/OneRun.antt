-- The merged list of logs that fit is a run, from the cluster of all bases to that of all present states.
use Rattle.std.proofs.Common.{◌≡◌, Bool, true, false, cond, List, [], ◌∷◌, Contains, refl, sym, ap, subst, ◌∙◌, ⊎_elim}
use Rattle.std.proofs.lemmas.Bool.{cases_Bool, false_from_ne_true}
use Rattle.std.specs.List.{filter}
use Rattle.bep_facts.specs.Members.{Contains-cons_cases, Contains-first, Contains-from_image, Contains-image, Contains-more, not_in_none}
use Rattle.bep_model.specs.Tables.{Device}
use Rattle.bep_machine.specs.declared.logged.Logged.{Logged}
use Rattle.bep_machine.specs.Cluster.{Cluster, Config}
use Rattle.bep_machine.specs.HalfLaws.{AreHeld, AreOfCluster, DevicesReplayTheirOwn, IsReplayed, LinksReplayTheirOwn, ReplaysAreThere, ReplaysRun}
use Rattle.bep_machine.specs.Halves.{PeerHalf, LinkHalf, LinkReplays, LinkStep, OnlyIf, PeerReplays, PeerStep, Replays, SaysNoMore, events_of_device, guards_of, touches_device, touches_link}
use Rattle.bep_machine.specs.Laws.{IsSoundStep}
use Rattle.bep_machine.specs.Link.{Link}
use Rattle.bep_fit.specs.declared.object.Object.{Object}
use Rattle.bep_fit.specs.declared.object.Object.TheVariants as objects
use Rattle.bep_fit.specs.declared.stamped.Stamped.{Stamped}
use Rattle.bep_fit.specs.Fit.{AreFaultless, IsMerged}
use Rattle.bep_fit.specs.FitLaws.{AreParts, FittingLogsAreOneRun}
use Rattle.bep_fit.specs.Logs.{HasLog, ObjectLog, events_of, named, touches, touches_object}
use Rattle.bep_fit.specs.Merge.{IsLogged}
use Rattle.bep_fit.specs.Replayed.{AreReplayed, AreSoundLogs, ObjectReplays}
use Rattle.bep_fit.proofs.Faultless.{entries_of, faultless_agree, in_no_other, named_there, ticket_of}
use Rattle.bep_fit.proofs.Merged.{is_part}
use Rattle.bep_fit.proofs.ThereObjects.{are_held, device_has_log, device_or_not, device_there, link_has_log, link_or_not, link_there}
use Rattle.bep_fit.proofs.Touched.{LosesLinks, device_named, link_named}

-- ---- lists of events

abbrev event_of : Stamped → Logged
event_of one = one.event

-- the events that pass are those of the entries that do
events_of-filter : (p : Logged → Bool) (list : List Stamped) → events_of (filter (λ (one : Stamped). p one.event) list) ≡ filter p (events_of list)
events_of-filter p [] = refl
events_of-filter p (first ∷ more) = cases (p first.event) (events_of-filter p more)
  where
    cases : (b : Bool) → events_of (filter (λ (one : Stamped). p one.event) more) ≡ filter p (events_of more) →
        events_of (cond b (first ∷ filter (λ (one : Stamped). p one.event) more) (filter (λ (one : Stamped). p one.event) more)) ≡ cond b (first.event ∷ filter p (events_of more)) (filter p (events_of more))
    cases true same = ap (λ (es : List Logged). first.event ∷ es) same
    cases false same = same

filter_none : (p : Logged → Bool) (list : List Logged) → ((event : Logged) → Contains list event → p event ≡ false) → filter p list ≡ []
filter_none p [] none = refl
filter_none p (first ∷ more) none =
    ap (λ b. cond b (first ∷ filter p more) (filter p more)) (none first (Contains-first first more)) ∙
    filter_none p more (λ event stands. none event (Contains-more first more event stands))

-- ---- replays

module _ {S : Type 0} (step : Logged → S → S → Type 0) where
  -- an event that is replayed makes its step, from some state
  step_in : (old : S) (events : List Logged) (new : S) → Replays step old events new → (event : Logged) → Contains events event → (before after : S) × step event before after
  step_in old [] new replays event stands = absurd (not_in_none event stands)
  step_in old (first ∷ more) new replays event stands =
      ⊎_elim
      (λ same. (old, replays.0, subst (λ e. step e old replays.0) same replays.1))
      (λ later. step_in replays.0 more new replays.2 event later)
      (Contains-cons_cases first more event stands)

  -- a state that each event leaves alone stays
  stays : (state : S) (events : List Logged) → ((event : Logged) → Contains events event → step event state state) → Replays step state events state
  stays state [] each = refl
  stays state (event ∷ more) each =
      (state, each event (Contains-first event more), stays state more (λ later stands. each later (Contains-more event more later stands)))

half_of : {S : Type 0} (half : Type 0) (old new : S) (b : Bool) → b ≡ true → OnlyIf b half old new → half
half_of half old new true is step = step
half_of half old new false is step = absurd (cc)

from_half : {S : Type 0} (half : Type 0) (old new : S) (b : Bool) → b ≡ true → half → OnlyIf b half old new
from_half half old new true is made = made
from_half half old new false is made = absurd (cc)

untouched_stays : {S : Type 0} (half : Type 0) (state : S) (b : Bool) → b ≡ false → OnlyIf b half state state
untouched_stays half state true is = absurd (cc)
untouched_stays half state false is = refl

of_cluster : (config : Config) (events : List Logged) → ((event : Logged) → Contains events event → AreHeld config (guards_of event.step) × IsSoundStep event.step) → AreOfCluster config events
of_cluster config [] each = tt
of_cluster config (event ∷ more) each =
    let here = each event (Contains-first event more) in
    (here.0, here.1, of_cluster config more (λ later stands. each later (Contains-more event more later stands)))

-- what an event makes of a link that it touches, where the link stays as it is
abbrev LinkMade : Logged → Link → Type 0
LinkMade event link = SaysNoMore event.step event.failed event.kept event.traffic × LinkHalf event.step event.traffic link link

-- ---- each object replays the merged list

module _ (logs : List ObjectLog) (bases present : Cluster) (replayed : AreReplayed logs bases present) (faultless : AreFaultless logs) (merged : List Stamped) (is : IsMerged logs merged) where
  pub are_parts : AreParts logs merged
  are_parts = is_part ticket_of entries_of touches logs (faultless_agree logs faultless) merged is

  -- an event of the list stands in some log
  pub logged : (event : Logged) → Contains (events_of merged) event → (one : Stamped) × (one.event ≡ event) × IsLogged entries_of logs one
  logged event stands = let found = Contains-from_image event_of merged event stands in (found.0, found.2, (is.holds found.0).0 found.1)

  -- the part of an object that has this log
  part_of : (log : ObjectLog) (object : Object) → Contains logs log → log.object ≡ object → log.events ≡ filter (λ (one : Stamped). touches_object (guards_of one.event.step) object) merged
  part_of log object there at = subst (λ (o : Object). log.events ≡ filter (λ (one : Stamped). touches_object (guards_of one.event.step) o) merged) at (are_parts log there)

  -- what leads from its base to its present state
  replayed_of : (log : ObjectLog) (object : Object) → Contains logs log → log.object ≡ object → ObjectReplays bases present object log.events
  replayed_of log object there at = subst (λ (o : Object). ObjectReplays bases present o log.events) at (replayed.replayed log there)

  -- ---- devices

  -- nothing touches a device that isn't there
  none_touch : (device : Device) → ¬ Contains bases.config.devices device → events_of_device device (events_of merged) ≡ []
  none_touch device absent = filter_none (λ (event : Logged). touches_device (guards_of event.step) device) (events_of merged) (λ event stands.
      false_from_ne_true (touches_device (guards_of event.step) device) (λ touching.
      let one = logged event stands in
      let names : Contains (named one.0) (objects.Device device) = device_named (guards_of one.0.event.step) device (subst (λ (e : Logged). touches_device (guards_of e.step) device ≡ true) (sym one.1) touching) in
      absent (device_there bases.config logs replayed.objects device (named_there logs faultless one.0 one.2 (objects.Device device) names))))

  module _ (own : DevicesReplayTheirOwn) (device : Device) where
    of_own : (events : List Logged) → events ≡ events_of_device device (events_of merged) → PeerReplays device (bases.peer device) events (present.peer device) → PeerReplays device (bases.peer device) (events_of merged) (present.peer device)
    of_own events are replays =
        (own device (bases.peer device) (present.peer device) (events_of merged)).1
        (subst (λ (es : List Logged). PeerReplays device (bases.peer device) es (present.peer device)) are replays)

    logged_device : HasLog logs (objects.Device device) → PeerReplays device (bases.peer device) (events_of merged) (present.peer device)
    logged_device (log, there, at) =
        of_own (events_of log.events)
        (ap events_of (part_of log (objects.Device device) there at) ∙ events_of-filter (λ (event : Logged). touches_device (guards_of event.step) device) merged)
        (replayed_of log (objects.Device device) there at)

    pub device_replays : PeerReplays device (bases.peer device) (events_of merged) (present.peer device)
    device_replays =
        ⊎_elim
        (λ there. logged_device (device_has_log bases.config logs replayed.objects device there))
        (λ absent. of_own [] (sym (none_touch device absent)) (replayed.no_device device absent))
        (device_or_not bases.config device)

  -- ---- links

  -- what each event says is no more than its step has to say
  says : (one : Stamped) → IsLogged entries_of logs one → SaysNoMore one.event.step one.event.failed one.event.kept one.event.traffic
  says one in_log = at in_log.0.object (in_no_other logs faultless one in_log.0 in_log.1 in_log.2) (replayed.replayed in_log.0 in_log.1)
    where
      stands : Contains (events_of in_log.0.events) one.event
      stands = Contains-image event_of in_log.0.events one in_log.2

      at : (object : Object) → touches_object (guards_of one.event.step) object ≡ true → ObjectReplays bases present object in_log.0.events → SaysNoMore one.event.step one.event.failed one.event.kept one.event.traffic
      at (objects.Device device) touching replays =
          let made = step_in (PeerStep device) (bases.peer device) (events_of in_log.0.events) (present.peer device) replays one.event stands in
          (half_of (SaysNoMore one.event.step one.event.failed one.event.kept one.event.traffic × PeerHalf one.event.step one.event.failed one.event.kept one.event.traffic made.0 made.1) made.0 made.1 (touches_device (guards_of one.event.step) device) touching made.2).0
      at (objects.Link lower upper) touching replays =
          let made = step_in (LinkStep lower upper) (bases.link lower upper) (events_of in_log.0.events) (present.link lower upper) replays one.event stands in
          (half_of (SaysNoMore one.event.step one.event.failed one.event.kept one.event.traffic × LinkHalf one.event.step one.event.traffic made.0 made.1) made.0 made.1 (touches_link (guards_of one.event.step) lower upper) touching made.2).0

  -- only restarts and resets touch a link that isn't there, which has nothing to lose
  stays_idle : (lower upper : Device) (absent : ¬ Contains bases.config.links (lower, upper)) (one : Stamped) → IsLogged entries_of logs one → LinkStep lower upper one.event (bases.link lower upper) (bases.link lower upper)
  stays_idle lower upper absent one in_log = ⊎_elim touched untouched (cases_Bool (touches_link (guards_of one.event.step) lower upper))
    where
      loses : LosesLinks one.event.step → LinkMade one.event (bases.link lower upper)
      loses all = (says one in_log, all one.event.traffic (bases.link lower upper) (bases.link lower upper) (sym (replayed.no_link lower upper absent).1))

      touched : touches_link (guards_of one.event.step) lower upper ≡ true → LinkStep lower upper one.event (bases.link lower upper) (bases.link lower upper)
      touched touching =
          from_half (LinkMade one.event (bases.link lower upper)) (bases.link lower upper) (bases.link lower upper) (touches_link (guards_of one.event.step) lower upper) touching
          (⊎_elim
          (λ named. absurd (absent (link_there bases.config logs replayed.objects lower upper (named_there logs faultless one in_log (objects.Link lower upper) named))))
          loses
          (link_named one.event.step lower upper touching))

      untouched : touches_link (guards_of one.event.step) lower upper ≡ false → LinkStep lower upper one.event (bases.link lower upper) (bases.link lower upper)
      untouched untouching = untouched_stays (LinkMade one.event (bases.link lower upper)) (bases.link lower upper) (touches_link (guards_of one.event.step) lower upper) untouching

  module _ (own : LinksReplayTheirOwn) (lower upper : Device) where
    logged_link : HasLog logs (objects.Link lower upper) → LinkReplays lower upper (bases.link lower upper) (events_of merged) (present.link lower upper)
    logged_link (log, there, at) =
        (own lower upper (bases.link lower upper) (present.link lower upper) (events_of merged)).1
        (subst (λ (es : List Logged). LinkReplays lower upper (bases.link lower upper) es (present.link lower upper))
        (ap events_of (part_of log (objects.Link lower upper) there at) ∙ events_of-filter (λ (event : Logged). touches_link (guards_of event.step) lower upper) merged)
        (replayed_of log (objects.Link lower upper) there at))

    idle_link : ¬ Contains bases.config.links (lower, upper) → LinkReplays lower upper (bases.link lower upper) (events_of merged) (present.link lower upper)
    idle_link absent =
        subst (λ (l : Link). LinkReplays lower upper (bases.link lower upper) (events_of merged) l) (sym (replayed.no_link lower upper absent).0)
        (stays (LinkStep lower upper) (bases.link lower upper) (events_of merged) (λ event stands.
        let one = logged event stands in
        subst (λ (e : Logged). LinkStep lower upper e (bases.link lower upper) (bases.link lower upper)) one.1 (stays_idle lower upper absent one.0 one.2)))

    pub link_replays : LinkReplays lower upper (bases.link lower upper) (events_of merged) (present.link lower upper)
    link_replays = ⊎_elim (λ there. logged_link (link_has_log bases.config logs replayed.objects lower upper there)) idle_link (link_or_not bases.config lower upper)

  -- ---- the whole

  pub of_the_cluster : AreSoundLogs logs → AreOfCluster bases.config (events_of merged)
  of_the_cluster nodes = of_cluster bases.config (events_of merged) (λ event stands.
      let one = logged event stands in
      subst (λ (e : Logged). AreHeld bases.config (guards_of e.step) × IsSoundStep e.step) one.1
      (are_held bases.config logs replayed.objects (guards_of one.0.event.step) (named_there logs faultless one.0 one.2), nodes one.2.0 one.0 one.2.1 one.2.2))

module _ (devices_own : DevicesReplayTheirOwn) (links_own : LinksReplayTheirOwn) (there : ReplaysAreThere) (runs : ReplaysRun) where
  pub fitting_logs_are_one_run_lem : FittingLogsAreOneRun
  fitting_logs_are_one_run_lem logs bases present count sound replayed nodes fits =
      let merged = fits.merged in
      let is = fits.is_merged in
      let events = events_of merged in
      let all : IsReplayed events bases present = record {
        config = replayed.config;
        peers = device_replays logs bases present replayed fits.faultless merged is devices_own;
        links = link_replays logs bases present replayed fits.faultless merged is links_own;
      } in
      let found = there bases present events sound (of_the_cluster logs bases present replayed fits.faultless merged is nodes) all in
      let run = runs bases present events found.0 all in
      (merged, fits.counted, record { is_merged = is; parts = are_parts logs bases present replayed fits.faultless merged is; events = run.0; steps = run.1; run = run.2; sound = found.1 })
