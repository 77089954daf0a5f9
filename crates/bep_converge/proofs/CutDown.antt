-- The links of a cut go down: then its cluster is reached, and what prevails comes to all.
use Rattle.std.proofs.Common.{◌≡◌, ◌∙◌, ◌==◌, ◌&&◌, ◌≤◌, ℕ, Bool, true, false, List, [], ◌∷◌, ◌++◌, map, length, Contains, Option, Some, None, refl, sym, ap, subst, inl, inr, ⊎_elim, if◌then◌else◌, arith}
use Rattle.std.proofs.lemmas.Bool.{eq-eqb, eqb-true, and_from}
use Rattle.std.proofs.lemmas.List.{length-append, length-map}
use Rattle.std.specs.FinMap.{get}
use Rattle.std.specs.Ordering.{nat_cmp}
use Rattle.bep_facts.specs.Maps.{nothing_in_empty}
use Rattle.bep_facts.specs.Members.{not_in_none, Contains-first, Contains-more, Contains-cons_cases, Contains-image}
use Rattle.bep_record.specs.declared.entry.Entry.{Entry}
use Rattle.bep_record.specs.declared.folder_kind.FolderKind.{FolderKind}
use Rattle.bep_model.specs.Tables.{Tables, Device, Folder, FileName}
use Rattle.bep_machine.specs.declared.moved.Moved.TheVariants.{Changed}
use Rattle.bep_machine.specs.declared.step.Step.{Step}
use Rattle.bep_machine.specs.declared.step.Step.TheVariants.{Lose}
use Rattle.bep_machine.specs.Answer.{Done}
use Rattle.bep_machine.specs.Cluster.{Config, Cluster, with_link}
use Rattle.bep_machine.specs.Gapless.{IsGapless, IsOfNoLaterIndex}
use Rattle.bep_machine.specs.Laws.{StepsKeepSound}
use Rattle.bep_machine.specs.Link.{Link, lost}
use Rattle.bep_machine.specs.Peer.{Peer, Session}
use Rattle.bep_machine.specs.Said.{tables_of_cluster}
use Rattle.bep_machine.specs.Sound.{IsSound}
use Rattle.bep_machine.specs.Steps.{Event, IsStep, IsRun, LoseRow, AreQuiet, HasNoReset, reset_made, reset_in}
use Rattle.bep_tables.specs.declared.cut.CutParts.{CutParts}
use Rattle.bep_tables.specs.declared.link.LinkState.{LinkState}
use Rattle.bep_tables.specs.Cut.{ends_of, link_of, tables_of}
use Rattle.bep_tables.proofs.Tables.{link_has_ends}
use Rattle.bep_origin.specs.FromCut.{cluster_from, link_from}
use Rattle.bep_converge.specs.Prevails.{IsAtTop, AllPrevail}
use Rattle.bep_converge.specs.Orderly.{StaysAt}
use Rattle.bep_converge.specs.Bring.{done, IsJoinedUp, IsReady}
use Rattle.bep_converge.specs.Laws.{CutsHaveHashes, PrevailingGoesOn, PrevailingIsUnique}
use Rattle.bep_converge.specs.Received.{AllHaveHashes}
use Rattle.bep_converge.specs.Rises.{GoesOnPrevailing}
use Rattle.bep_converge.specs.Arrival.{AllCome, Behind, HasAllBehind}
use Rattle.bep_converge.specs.CutDown.{AllComeFromCuts, ComesDown, CutsComeDown, IsReadyCut}
use Rattle.bep_converge.proofs.AllCome.{at_each_top}
use Rattle.bep_converge.proofs.BringStage.{step_made}
use Rattle.bep_converge.proofs.BringSteps.{AreCalm, all_are_done, all_done_on, are_quiet, have_no_reset, runs_on}
use Rattle.bep_converge.proofs.StepKept.{known_of}

-- ---- links that go down

-- A run of done steps leads to a cluster in which these links are down, and no link came up. All else is as it was.
record IsLowered (cluster : Cluster) (links : List (Device × Device)) : Type 0 where
  steps : List Step
  calm : AreCalm steps
  later : Cluster
  run : IsRun cluster (map done steps) later
  few : length steps ≤ length links
  sound : IsSound later
  config : later.config ≡ cluster.config
  peers : later.peer ≡ cluster.peer
  epochs : (one other : Device) → (later.link one other).epoch ≤ (cluster.link one other).epoch
  down : (ends : Device × Device) → Contains links ends → (later.link ends.0 ends.1).up ≡ false
  stays_down : (one other : Device) → (cluster.link one other).up ≡ false → (later.link one other).up ≡ false

abbrev lowered : Cluster → Device × Device → Cluster
lowered c ends = with_link c ends.0 ends.1 (lost (c.link ends.0 ends.1))

lowered_is_down : (c : Cluster) (ends : Device × Device) → ((lowered c ends).link ends.0 ends.1).up ≡ false
lowered_is_down c ends =
    ap (λ (b : Bool). (if b then lost (c.link ends.0 ends.1) else c.link ends.0 ends.1).up) (and_from (ends.0 == ends.0) (ends.1 == ends.1) (eq-eqb ends.0 ends.0 refl) (eq-eqb ends.1 ends.1 refl))

lowered_stays_down : (c : Cluster) (ends : Device × Device) (one other : Device) → (c.link one other).up ≡ false → ((lowered c ends).link one other).up ≡ false
lowered_stays_down c ends one other down = by_test ((one == ends.0) && (other == ends.1))
  where
    by_test : (b : Bool) → (if b then lost (c.link ends.0 ends.1) else c.link one other).up ≡ false
    by_test true = refl
    by_test false = down

lowered_epochs : (c : Cluster) (ends : Device × Device) (one other : Device) → ((lowered c ends).link one other).epoch ≤ (c.link one other).epoch
lowered_epochs c ends one other = by_tests (one == ends.0) (other == ends.1) refl refl
  where
    by_tests : (b d : Bool) → (one == ends.0) ≡ b → (other == ends.1) ≡ d → (if b && d then lost (c.link ends.0 ends.1) else c.link one other).epoch ≤ (c.link one other).epoch
    by_tests true true first second =
        subst (λ (x : Device). (c.link ends.0 ends.1).epoch ≤ (c.link x other).epoch) (sym (eqb-true one ends.0 first))
        (subst (λ (x : Device). (c.link ends.0 ends.1).epoch ≤ (c.link ends.0 x).epoch) (sym (eqb-true other ends.1 second)) (omega arith))
    by_tests true false first second = omega arith
    by_tests false d first second = omega arith

lose_row : (link : Link) → link.up ≡ true → LoseRow link (lost link) (Done Changed)
lose_row link up = inr ((λ down. let both : true ≡ false = sym up ∙ down in cc), (refl, refl))

module _ (keep_sound : StepsKeepSound) where
  -- where the first is up, it's lost
  lose_first : (c : Cluster) (ends : Device × Device) (more : List (Device × Device)) → IsSound c → Contains c.config.links ends → (c.link ends.0 ends.1).up ≡ true →
      (IsSound (lowered c ends) → IsLowered (lowered c ends) more) → IsLowered c (ends ∷ more)
  lose_first c ends more sound there up rest_of =
      let step = Lose ends.0 ends.1 in
      let next = lowered c ends in
      let made : IsStep step None c next (Done Changed) = step_made step c next there (lost (c.link ends.0 ends.1), lose_row (c.link ends.0 ends.1) up, refl) in
      let rest = rest_of (keep_sound step None c next (Done Changed) tt sound made) in
      record {
        steps = step ∷ rest.steps;
        calm = (record { quiet = tt; unreset = refl; sound = tt }, rest.calm);
        later = rest.later;
        run = (next, made, rest.run);
        few = let few = rest.few in omega (arith, few);
        sound = rest.sound;
        config = rest.config;
        peers = rest.peers;
        epochs = λ one other. let a = rest.epochs one other in let b = lowered_epochs c ends one other in omega (arith, a, b);
        down = λ one member.
            ⊎_elim
            (λ same. subst (λ (e : Device × Device). (rest.later.link e.0 e.1).up ≡ false) same (rest.stays_down ends.0 ends.1 (lowered_is_down c ends)))
            (λ later. rest.down one later)
            (Contains-cons_cases ends more one member);
        stays_down = λ one other down. rest.stays_down one other (lowered_stays_down c ends one other down);
      }

  -- where it's down, nothing is to do
  pass_first : (c : Cluster) (ends : Device × Device) (more : List (Device × Device)) → (c.link ends.0 ends.1).up ≡ false → IsLowered c more → IsLowered c (ends ∷ more)
  pass_first c ends more down rest = record {
    steps = rest.steps;
    calm = rest.calm;
    later = rest.later;
    run = rest.run;
    few = let few = rest.few in omega (arith, few);
    sound = rest.sound;
    config = rest.config;
    peers = rest.peers;
    epochs = rest.epochs;
    down = λ one member.
        ⊎_elim
        (λ same. subst (λ (e : Device × Device). (rest.later.link e.0 e.1).up ≡ false) same (rest.stays_down ends.0 ends.1 down))
        (λ later. rest.down one later)
        (Contains-cons_cases ends more one member);
    stays_down = rest.stays_down;
  }

  lower_all : (links : List (Device × Device)) (c : Cluster) → IsSound c → ((ends : Device × Device) → Contains links ends → Contains c.config.links ends) → IsLowered c links
  lower_all [] c sound there = record {
    steps = [];
    calm = tt;
    later = c;
    run = refl;
    few = omega arith;
    sound = sound;
    config = refl;
    peers = refl;
    epochs = λ one other. omega arith;
    down = λ ends member. absurd (not_in_none ends member);
    stays_down = λ one other down. down;
  }
  lower_all (ends ∷ more) c sound there = by_test (c.link ends.0 ends.1).up refl (λ next sound_next there_next. lower_all more next sound_next there_next)
    where
      later_there : (one : Device × Device) → Contains more one → Contains c.config.links one
      later_there one member = there one (Contains-more ends more one member)

      by_test : (b : Bool) → (c.link ends.0 ends.1).up ≡ b → ((next : Cluster) → IsSound next → ((one : Device × Device) → Contains more one → Contains next.config.links one) → IsLowered next more) → IsLowered c (ends ∷ more)
      by_test true up rest_of = lose_first c ends more sound (there ends (Contains-first ends more)) up (λ sound_next. rest_of (lowered c ends) sound_next later_there)
      by_test false down rest_of = pass_first c ends more down (rest_of c sound later_there)

-- ---- of a cut

-- all its links are down once those that it has are
all_down : (cut : CutParts) (lower : IsLowered (cluster_from cut) (map ends_of cut.links)) (one other : Device) → (lower.later.link one other).up ≡ false
all_down cut lower one other = by_state (link_of one other cut.links) refl
  where
    by_state : (found : Option LinkState) → link_of one other cut.links ≡ found → (lower.later.link one other).up ≡ false
    by_state None is = lower.stays_down one other (ap (λ (f : Option LinkState). (link_from f).up) is)
    by_state (Some state) is =
        let ends = link_has_ends one other cut.links state is in
        subst (λ (a : Device). (lower.later.link a other).up ≡ false) ends.1
        (subst (λ (b : Device). (lower.later.link state.a b).up ≡ false) ends.2
        (lower.down (ends_of state) (Contains-image ends_of cut.links state ends.0)))

-- what doesn't look at links holds where configuration and devices are the same
module _ (P : Config → (Device → Peer) → Type 0) where
  where_same : (old new : Cluster) → new.config ≡ old.config → new.peer ≡ old.peer → P old.config old.peer → P new.config new.peer
  where_same old new config peers holds = subst (λ (k : Config). P k new.peer) (sym config) (subst (λ (p : Device → Peer). P old.config p) (sym peers) holds)

-- the cluster with these links
abbrev linked : (Device → Device → Link) → Config → (Device → Peer) → Cluster
linked link config peer = record { config = config; peer = peer; link = link }

module _ (keep_sound : StepsKeepSound) (hashes : CutsHaveHashes) (goes_on : PrevailingGoesOn) (turns : ℕ) (cut : CutParts) (ready : IsReadyCut turns cut) where
  abbrev old : Cluster
  old = cluster_from cut

  module _ (lower : IsLowered old (map ends_of cut.links)) where
    abbrev new : Cluster
    new = lower.later

    gapless : IsGapless new
    gapless = where_same (λ config peer. IsGapless (linked new.link config peer)) old new lower.config lower.peers ready.gapless

    earlier : IsOfNoLaterIndex new
    earlier = where_same (λ config peer. IsOfNoLaterIndex (linked new.link config peer)) old new lower.config lower.peers ready.earlier

    no_session : (device other : Device) (session : Session) → get (new.peer device).sessions other ≡ Some session → ⊥
    no_session device other session has =
        nothing_in_empty nat_cmp other session (ap (λ (p : Device → Peer). get (p device).sessions other) (sym lower.peers) ∙ has)

    have_hashes : AllHaveHashes new
    have_hashes = where_same (λ config peer. AllHaveHashes (linked new.link config peer)) old new lower.config lower.peers (hashes cut)

    still : (device : Device) (folder : Folder) (name : FileName) → StaysAt (tables_of_cluster old) (tables_of_cluster new) device folder name
    still device folder name =
        where_same (λ config peer. StaysAt (tables_of_cluster old) (tables_of_cluster (linked new.link config peer)) device folder name) old new lower.config lower.peers (refl, refl)

    old_prevails : AllPrevail (tables_of_cluster old)
    old_prevails = subst AllPrevail (sym ready.from.says) ready.prevails

    goes : GoesOnPrevailing (tables_of_cluster old) (tables_of_cluster new)
    goes = goes_on (tables_of_cluster old) old_prevails old new (map done lower.steps) ready.from.sound (hashes cut) refl lower.run (are_quiet lower.steps lower.calm) (have_no_reset lower.steps lower.calm)

    ready_down : IsReady turns new
    ready_down = record {
      sound = lower.sound;
      hashes = have_hashes;
      reached = record {
        first = new;
        events = [];
        sound = lower.sound;
        apart = record {
          gapless = gapless;
          earlier = earlier;
          sessions = λ device other session has. absurd (no_session device other session has);
          links = all_down cut lower;
        };
        made = tt;
        run = refl;
      };
      prevails = goes.all;
      joined = subst IsJoinedUp (sym lower.config) ready.joined;
      room = record {
        numbers = λ device folder replica here.
            ready.room.numbers device folder replica (ap (λ (p : Device → Peer). get (p device).replicas folder) (sym lower.peers) ∙ here);
        epochs = λ one other. let less = lower.epochs one other in let had = ready.room.epochs one other in omega (arith, less, had);
        names = λ folder records known. ready.room.names folder records (λ name has. goes.names folder name (known name has));
      };
    }

    comes_down : ComesDown turns cut
    comes_down = record {
      events = map done lower.steps;
      later = new;
      run = lower.run;
      quiet = are_quiet lower.steps lower.calm;
      unreset = have_no_reset lower.steps lower.calm;
      each_done = all_are_done lower.steps;
      few =
          let few = lower.few in
          let events = length-map lower.steps done in
          let links = length-map cut.links ends_of in
          omega (arith, few, events, links);
      config = lower.config;
      ready = ready_down;
      still = subst (λ (t : Tables). (device : Device) (folder : Folder) (name : FileName) → StaysAt t (tables_of_cluster new) device folder name) ready.from.says still;
    }

pub cuts_come_down_lem : StepsKeepSound → CutsHaveHashes → PrevailingGoesOn → CutsComeDown
cuts_come_down_lem keep_sound hashes goes_on turns cut ready =
    comes_down keep_sound hashes goes_on turns cut ready (lower_all keep_sound (map ends_of cut.links) (cluster_from cut) ready.from.sound (λ ends member. member))

-- ---- and what prevails comes to all

quiet_on : (one two : List Event) → AreQuiet one → AreQuiet two → AreQuiet (one ++ two)
quiet_on [] two first second = second
quiet_on (event ∷ one) two first second = (first.0, quiet_on one two first.1 second)

none_before : (one two : List Device) → one ++ two ≡ [] → (one ≡ []) × (two ≡ [])
none_before [] two none = (refl, none)
none_before (device ∷ one) two none = absurd (cc)

unreset_on : (one two : List Event) → HasNoReset one → HasNoReset two → HasNoReset (one ++ two)
unreset_on [] two first second = second
unreset_on (event ∷ one) two first second =
    let parts = none_before (reset_made event.step event.answer) (reset_in one) first in
    ap (λ (devices : List Device). devices ++ reset_in (one ++ two)) parts.0 ∙ unreset_on one two parts.1 second

module _ (unique : PrevailingIsUnique) (cut : CutParts) (later : Cluster) (goes : GoesOnPrevailing (tables_of cut) (tables_of_cluster later)) (all : AllPrevail (tables_of cut))
    (still : (device : Device) (folder : Folder) (name : FileName) → StaysAt (tables_of cut) (tables_of_cluster later) device folder name)
    (sharing : (folder : Folder) → (tables_of_cluster later).sharing folder ≡ (tables_of cut).sharing folder) where
  -- who was behind is still
  still_behind : (behind : List Behind) → HasAllBehind (tables_of cut) behind → HasAllBehind (tables_of_cluster later) behind
  still_behind behind has = record {
    each = λ one member.
        let was = has.each one member in
        ((was.0.0, subst (λ (s : List (Device × FolderKind)). Contains s (one.device, was.0.0)) (sym (sharing one.folder)) was.0.1), goes.same one.folder one.name one.top was.1);
    all = λ device folder name top prevails shares not_at.
        let known = goes.names folder name (known_of (tables_of_cluster later) folder name top (prevails.top_of.owner, prevails.top_of.shares, inl prevails.top_of.owned)) in
        let was = all folder name known in
        let same = (still device folder name).0 in
        has.all device folder name was.0 was.1 (shares.0, subst (λ (s : List (Device × FolderKind)). Contains s (device, shares.0)) (sharing folder) shares.1)
        (λ at.
        not_at
        (at_each_top unique (tables_of_cluster later) folder name was.0 top ((tables_of_cluster later).own device folder name) (goes.same folder name was.0 was.1) prevails
        (subst (λ (o : Option Entry). IsAtTop o was.0) (sym same) at)));
  }

pub all_come_from_cuts_lem : CutsComeDown → AllCome → CutsHaveHashes → PrevailingIsUnique → PrevailingGoesOn → AllComeFromCuts
all_come_from_cuts_lem down comes hashes unique goes_on cut behind ready has =
    let first = cluster_from cut in
    let says = ready.from.says in
    let fallen = down (length behind) cut ready in
    let goes = goes_on (tables_of cut) ready.prevails first fallen.later fallen.events ready.from.sound (hashes cut) says fallen.run fallen.quiet fallen.unreset in
    let sharing : (folder : Folder) → (tables_of_cluster fallen.later).sharing folder ≡ (tables_of cut).sharing folder =
    λ folder. ap (λ (c : Config). c.sharing folder) fallen.config ∙ ap (λ (t : Tables). t.sharing folder) says in
    let arrive = comes fallen.later behind fallen.ready (still_behind unique cut fallen.later goes ready.prevails fallen.still sharing behind has) in
    let run = runs_on first fallen.later arrive.later fallen.events arrive.events fallen.run arrive.run in
    let quiet = quiet_on fallen.events arrive.events fallen.quiet arrive.quiet in
    let unreset = unreset_on fallen.events arrive.events fallen.unreset arrive.unreset in
    record {
      events = fallen.events ++ arrive.events;
      later = arrive.later;
      run = run;
      quiet = quiet;
      unreset = unreset;
      each_done = all_done_on fallen.events arrive.events fallen.each_done arrive.each_done;
      few =
          let whole = length-append fallen.events arrive.events in
          let a = fallen.few in
          let b = arrive.few in
          omega (arith, whole, a, b);
      ended = arrive.ended;
      goes = goes_on (tables_of_cluster first) (subst AllPrevail (sym says) ready.prevails) first arrive.later (fallen.events ++ arrive.events) ready.from.sound (hashes cut) refl run quiet unreset;
      config = arrive.config ∙ fallen.config;
    }
