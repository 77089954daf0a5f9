-- What prevails comes to all: one name after the other is brought to one device after the other.
use Rattle.std.proofs.Common.{◌≡◌, ◌⊎◌, ◌+◌, ◌*◌, ◌≤◌, ℕ, zero, suc, true, false, List, [], ◌∷◌, ◌++◌, map, length, Contains, Option, Some, None, refl, sym, ap, subst, ◌∙◌, inl, inr, ⊎_elim, arith}
use Rattle.std.proofs.lemmas.Bool.{cases_Bool, cases_eq, cases_lt}
use Rattle.std.proofs.lemmas.List.{length-append, length-map}
use Rattle.bep_facts.specs.Decided.{OrNot, both_or_not}
use Rattle.bep_facts.specs.Members.{not_in_none, Contains-first, Contains-more, Contains-cons_cases}
use Rattle.bep_record.specs.declared.entry.Entry.{Entry}
use Rattle.bep_record.specs.declared.folder_kind.FolderKind.{FolderKind}
use Rattle.bep_record.specs.Vector.{counter_of, IsAtMost}
use Rattle.bep_model.specs.Tables.{Tables, Device, Folder, FileName, Shares}
use Rattle.bep_model.proofs.VersionsDecided.{below_or_not}
use Rattle.bep_machine.specs.declared.step.Step.{Step}
use Rattle.bep_machine.specs.declared.step.Step.TheVariants.{StartPull, Finish}
use Rattle.bep_machine.specs.Cluster.{Cluster}
use Rattle.bep_machine.specs.Steps.{IsRun}
use Rattle.bep_machine.specs.Laws.{StepsKeepSound}
use Rattle.bep_machine.specs.Said.{tables_of_cluster}
use Rattle.bep_converge.specs.Prevails.{IsNoLocalChange, IsAtTop, Prevails}
use Rattle.bep_converge.specs.Ended.{IsEnded}
use Rattle.bep_converge.specs.Laws.{PrevailingIsUnique, PrevailingGoesOn}
use Rattle.bep_converge.specs.Bring.{done, repeated, hear, fetch, bring_steps, IsReady}
use Rattle.bep_converge.specs.BringLaws.{BringBrings}
use Rattle.bep_converge.specs.Arrival.{IsKept, BringKeeps, Behind, HasAllBehind, steps_for, AllCome}
use Rattle.bep_converge.specs.Fewer.{FewerAreBehind}
use Rattle.bep_converge.proofs.BringSteps.{all_are_done, are_quiet, have_no_reset, steps_run_on}
use Rattle.bep_converge.proofs.ConvergeFaultless.{at_other_top}
use Rattle.bep_converge.proofs.PlaceMoves.{same_name}
use Rattle.bep_converge.proofs.RaisedRuns.{AllBring, bring_at, all_calm, run_rises}
use Rattle.bep_converge.proofs.StepKept.{known_of}

-- ---- whether a device is at the top

at_most_where_not_not : (u v : List (ℕ × ℕ)) → ¬ (¬ IsAtMost u v) → IsAtMost u v
at_most_where_not_not u v not_not id =
    ⊎_elim (λ less. absurd (not_not (λ within. let a = within id in omega arith))) (λ within. within) (cases_lt (counter_of v id) (counter_of u id))

at_or_behind : (own : Option Entry) (top : Entry) → ((one : Entry) → own ≡ Some one → IsAtMost one.version top.version) → OrNot (IsAtTop own top)
at_or_behind None top within = deleted_or_not (cases_Bool top.deleted)
  where
    deleted_or_not : (top.deleted ≡ true) ⊎ (top.deleted ≡ false) → OrNot (top.deleted ≡ true)
    deleted_or_not (inl is) = inl is
    deleted_or_not (inr there) = inr (λ is. let both : true ≡ false = sym is ∙ there in cc)
at_or_behind (Some own) top within =
    ⊎_elim
    (λ below. inr (λ at. below.1 at.1))
    (λ not_below. inl (within own refl, at_most_where_not_not top.version own.version (λ newer. not_below (within own refl, newer))))
    (below_or_not own.version top.version)

pub at_top_or_not : (t : Tables) (device : Device) (folder : Folder) (name : FileName) (top : Entry) → Prevails t folder name top → Shares t device folder → OrNot (IsAtTop (t.own device folder name) top)
at_top_or_not t device folder name top prevails shares =
    at_or_behind (t.own device folder name) top
    (λ own is.
    let valid : own.invalid ≡ false = subst (λ (o : Option Entry). IsNoLocalChange o) is (prevails.everywhere device shares).not_local in
    prevails.top_of.above_all own (device, shares, inl (is, valid)))

-- ---- how long a run is

repeated_pair : (times : ℕ) (one other : Step) → length (repeated times (one ∷ other ∷ [])) ≡ 2 * times
repeated_pair zero one other = refl
repeated_pair (suc times) one other = let rest = repeated_pair times one other in omega arith

repeated_three : (times : ℕ) (one other third : Step) → length (repeated times (one ∷ other ∷ third ∷ [])) ≡ 3 * times
repeated_three zero one other third = refl
repeated_three (suc times) one other third = let rest = repeated_three times one other third in omega arith

bring_length : (device owner : Device) (folder : Folder) (name : FileName) (batches blocks : ℕ) → length (bring_steps device owner folder name batches blocks) ≡ 9 + 2 * batches + 3 * blocks
bring_length device owner folder name batches blocks =
    let heard = repeated batches (hear device owner folder) in
    let fetched = repeated blocks (fetch device owner folder name) in
    let a : length heard ≡ 2 * batches = repeated_pair batches _ _ in
    let b : length fetched ≡ 3 * blocks = repeated_three blocks _ _ _ in
    let last = Finish device folder name ∷ [] in
    let c = length-append fetched last in
    let d = length-append heard (StartPull device folder name ∷ (fetched ++ last)) in
    omega arith

-- ---- runs, one after the other

bring_through : (some more : List Step) → AllBring some → AllBring more → AllBring (some ++ more)
bring_through [] more one two = two
bring_through (step ∷ some) more one two = (one.0, bring_through some more one.1 two)

-- a run after which all are at the top
record IsArrival (cluster : Cluster) (most : ℕ) : Type 0 where
  steps : List Step
  brings : AllBring steps
  later : Cluster
  run : IsRun cluster (map done steps) later
  few : length steps ≤ most
  ended : IsEnded (tables_of_cluster later)

fewer_turns : (turns : ℕ) (cluster : Cluster) → IsReady (turns + 1) cluster → IsReady turns cluster
fewer_turns turns cluster ready = record {
  sound = ready.sound;
  hashes = ready.hashes;
  reached = ready.reached;
  prevails = ready.prevails;
  joined = ready.joined;
  room = record {
    numbers = λ device folder replica here. let had = ready.room.numbers device folder replica here in omega arith;
    epochs = λ one other. let had = ready.room.epochs one other in omega arith;
    names = ready.room.names;
  };
}

-- ---- the list of who is behind

module _ (unique : PrevailingIsUnique) where
  pub at_each_top : (t : Tables) (folder : Folder) (name : FileName) (one other : Entry) (own : Option Entry) → Prevails t folder name one → Prevails t folder name other → IsAtTop own one → IsAtTop own other
  at_each_top t folder name one other own prevails too at =
      let same = unique t folder name one other prevails too in
      at_other_top own one other same.0 same.1 at

  -- who is at the top isn't listed any more
  without_first : (t : Tables) (first : Behind) (more : List Behind) → HasAllBehind t (first ∷ more) → IsAtTop (t.own first.device first.folder first.name) first.top → HasAllBehind t more
  without_first t first more behind at = record {
    each = λ one member. behind.each one (Contains-more first more one member);
    all = λ device folder name top prevails shares not_at.
        let found = behind.all device folder name top prevails shares not_at in
        ⊎_elim
        (λ same.
        let here : IsAtTop (t.own device folder name) first.top =
        subst (λ (d : Device). IsAtTop (t.own d folder name) first.top) (ap (λ (b : Behind). b.device) same ∙ found.2)
        (subst (λ (f : Folder). IsAtTop (t.own first.device f name) first.top) (ap (λ (b : Behind). b.folder) same ∙ found.3)
        (subst (λ (n : FileName). IsAtTop (t.own first.device first.folder n) first.top) (ap (λ (b : Behind). b.name) same ∙ found.4) at)) in
        let first_prevails : Prevails t folder name first.top =
        subst (λ (f : Folder). Prevails t f name first.top) (ap (λ (b : Behind). b.folder) same ∙ found.3)
        (subst (λ (n : FileName). Prevails t first.folder n first.top) (ap (λ (b : Behind). b.name) same ∙ found.4) (behind.each first (Contains-first first more)).1) in
        absurd (not_at (at_each_top t folder name first.top top (t.own device folder name) first_prevails prevails here)))
        (λ later. (found.0, later, found.2, found.3, found.4))
        (Contains-cons_cases first more found.0 found.1);
  }

  -- one is brought: the others are listed still
  module _ (turns : ℕ) (cluster later : Cluster) (first : Behind) (more : List Behind) (behind : HasAllBehind (tables_of_cluster cluster) (first ∷ more)) (ready : IsReady (turns + 1) cluster)
      (kept : IsKept turns cluster later first.device first.folder first.name) (config : (folder : Folder) → later.config.sharing folder ≡ cluster.config.sharing folder) where
    abbrev old : Tables
    old = tables_of_cluster cluster

    abbrev new : Tables
    new = tables_of_cluster later

    before : (device : Device) (folder : Folder) → Shares new device folder → Shares old device folder
    before device folder shares = (shares.0, subst (λ (s : List (Device × FolderKind)). Contains s (device, shares.0)) (config folder) shares.1)

    after : (device : Device) (folder : Folder) → Shares old device folder → Shares new device folder
    after device folder shares = (shares.0, subst (λ (s : List (Device × FolderKind)). Contains s (device, shares.0)) (sym (config folder)) shares.1)

    -- the name of what prevails prevailed before
    was_prevailing : (folder : Folder) (name : FileName) (top : Entry) → Prevails new folder name top → (was : Entry) × Prevails old folder name was
    was_prevailing folder name top prevails =
        ready.prevails folder name (kept.goes.names folder name (known_of new folder name top (prevails.top_of.owner, prevails.top_of.shares, inl prevails.top_of.owned)))

    at_first : (device : Device) (folder : Folder) (name : FileName) → OrNot ((device ≡ first.device) × (folder ≡ first.folder) × (name ≡ first.name))
    at_first device folder name = or_not_flat (cases_eq device first.device) (both_or_not (same_name folder first.folder) (same_name name first.name))
      where
        or_not_flat : {A B C : Type 0} → OrNot A → OrNot (B × C) → OrNot (A × B × C)
        or_not_flat one two = ⊎_elim (λ a. ⊎_elim (λ rest. inl (a, rest.0, rest.1)) (λ no. inr (λ all. no (all.1, all.2))) two) (λ no. inr (λ all. no all.0)) one

    behind_later : IsAtTop (new.own first.device first.folder first.name) first.top → HasAllBehind new more
    behind_later at = record {
      each = λ one member.
          let was = behind.each one (Contains-more first more one member) in
          (after one.device one.folder was.0, kept.goes.same one.folder one.name one.top was.1);
      all = λ device folder name top prevails shares not_at.
          ⊎_elim
          (λ here.
          let there : IsAtTop (new.own device folder name) first.top =
          subst (λ (d : Device). IsAtTop (new.own d folder name) first.top) (sym here.0)
          (subst (λ (f : Folder). IsAtTop (new.own first.device f name) first.top) (sym here.1)
          (subst (λ (n : FileName). IsAtTop (new.own first.device first.folder n) first.top) (sym here.2) at)) in
          let first_prevails : Prevails new folder name first.top =
          subst (λ (f : Folder). Prevails new f name first.top) (sym here.1)
          (subst (λ (n : FileName). Prevails new first.folder n first.top) (sym here.2)
          (kept.goes.same first.folder first.name first.top (behind.each first (Contains-first first more)).1)) in
          absurd (not_at (at_each_top new folder name first.top top (new.own device folder name) first_prevails prevails there)))
          (λ apart.
          let was = was_prevailing folder name top prevails in
          let shared = before device folder shares in
          let same = (kept.others device folder name apart shared).0 in
          let not_was : ¬ IsAtTop (old.own device folder name) was.0 = λ was_at.
          not_at
          (at_each_top new folder name was.0 top (new.own device folder name) (kept.goes.same folder name was.0 was.1) prevails
          (subst (λ (o : Option Entry). IsAtTop o was.0) (sym same) was_at)) in
          let found = behind.all device folder name was.0 was.1 shared not_was in
          ⊎_elim
          (λ is. absurd (apart (sym found.2 ∙ ap (λ (b : Behind). b.device) (sym is), sym found.3 ∙ ap (λ (b : Behind). b.folder) (sym is), sym found.4 ∙ ap (λ (b : Behind). b.name) (sym is))))
          (λ later_on. (found.0, later_on, found.2, found.3, found.4))
          (Contains-cons_cases first more found.0 found.1))
          (at_first device folder name);
    }

-- ---- the whole

module _ (unique : PrevailingIsUnique) (brings : BringBrings) (keeps : BringKeeps) (same_config : (steps : List Step) (old new : Cluster) → AllBring steps → IsReady 0 old → IsRun old (map done steps) new → new.config ≡ old.config) where
  arrives : (cluster : Cluster) (behind : List Behind) → IsReady (length behind) cluster → HasAllBehind (tables_of_cluster cluster) behind → IsArrival cluster (steps_for behind)
  arrives cluster [] ready behind = record {
    steps = [];
    brings = tt;
    later = cluster;
    run = refl;
    few = omega arith;
    ended = record {
      all = ready.prevails;
      at_top = λ folder name top prevails device shares.
          ⊎_elim
          (λ at. at)
          (λ not_at. let found = behind.all device folder name top prevails shares not_at in absurd (not_in_none found.0 found.1))
          (at_top_or_not (tables_of_cluster cluster) device folder name top prevails shares);
    };
  }
  arrives cluster (first ∷ more) ready behind =
      let turns : ℕ = length more in
      let is_ready : IsReady (turns + 1) cluster = subst (λ (n : ℕ). IsReady n cluster) (omega arith) ready in
      let known = behind.each first (Contains-first first more) in
      ⊎_elim
      (λ at. longer cluster first more (arrives cluster more (fewer_turns turns cluster is_ready) (without_first unique (tables_of_cluster cluster) first more behind at)))
      (λ not_at.
      let brought = brings turns cluster first.device first.folder first.name first.top is_ready known.1 known.0 not_at in
      let kept = keeps turns cluster brought.later first.device brought.owner first.folder first.name brought.batches brought.blocks is_ready brought.run in
      let at = bring_at first.device brought.owner first.folder first.name brought.batches brought.blocks in
      let steps = bring_steps first.device brought.owner first.folder first.name brought.batches brought.blocks in
      let none_ready : IsReady 0 cluster = no_turns turns cluster is_ready in
      let config = same_config steps cluster brought.later at.all none_ready brought.run in
      let rest = arrives brought.later more kept.ready
      (behind_later unique turns cluster brought.later first more behind is_ready kept (λ folder. ap (λ (c : _). c.sharing folder) config) brought.at_top) in
      record {
        steps = steps ++ rest.steps;
        brings = bring_through steps rest.steps at.all rest.brings;
        later = rest.later;
        run = steps_run_on cluster brought.later rest.later steps rest.steps brought.run rest.run;
        few =
            let long = bring_length first.device brought.owner first.folder first.name brought.batches brought.blocks in
            let whole = length-append steps rest.steps in
            let few = rest.few in
            let a = brought.few_batches in
            let b = brought.few_blocks in
            omega arith;
        ended = rest.ended;
      })
      (at_top_or_not (tables_of_cluster cluster) first.device first.folder first.name first.top known.1 known.0)
    where
      longer : (cluster : Cluster) (first : Behind) (more : List Behind) → IsArrival cluster (steps_for more) → IsArrival cluster (steps_for (first ∷ more))
      longer cluster first more arrival = record {
        steps = arrival.steps;
        brings = arrival.brings;
        later = arrival.later;
        run = arrival.run;
        few = let few = arrival.few in omega arith;
        ended = arrival.ended;
      }

      no_turns : (turns : ℕ) (cluster : Cluster) → IsReady (turns + 1) cluster → IsReady 0 cluster
      no_turns turns cluster ready = record {
        sound = ready.sound;
        hashes = ready.hashes;
        reached = ready.reached;
        prevails = ready.prevails;
        joined = ready.joined;
        room = record {
          numbers = λ device folder replica here. let had = ready.room.numbers device folder replica here in omega arith;
          epochs = λ one other. let had = ready.room.epochs one other in omega arith;
          names = ready.room.names;
        };
      }

pub fewer_are_behind_lem : PrevailingIsUnique → BringKeeps → StepsKeepSound → FewerAreBehind
fewer_are_behind_lem unique keeps keep_sound turns cluster later owner first more batches blocks ready behind run at =
    let all = bring_at first.device owner first.folder first.name batches blocks in
    let steps = bring_steps first.device owner first.folder first.name batches blocks in
    let config = (run_rises keep_sound steps cluster later all.all ready.sound run).config in
    behind_later unique turns cluster later first more behind ready (keeps turns cluster later first.device owner first.folder first.name batches blocks ready run) (λ folder. ap (λ (c : _). c.sharing folder) config) at

pub all_come_lem : PrevailingIsUnique → BringBrings → BringKeeps → StepsKeepSound → PrevailingGoesOn → AllCome
all_come_lem unique brings keeps keep_sound goes_on cluster behind ready has =
    let arrival = arrives unique brings keeps (λ steps old new all ready run. (run_rises keep_sound steps old new all ready.sound run).config) cluster behind ready has in
    let quiet = are_quiet arrival.steps (all_calm arrival.steps arrival.brings) in
    let unreset = have_no_reset arrival.steps (all_calm arrival.steps arrival.brings) in
    record {
      events = map done arrival.steps;
      later = arrival.later;
      run = arrival.run;
      quiet = quiet;
      unreset = unreset;
      each_done = all_are_done arrival.steps;
      few = let same = length-map arrival.steps done in let few = arrival.few in omega arith;
      ended = arrival.ended;
      goes = goes_on (tables_of_cluster cluster) ready.prevails cluster arrival.later (map done arrival.steps) ready.sound ready.hashes refl arrival.run quiet unreset;
      config = (run_rises keep_sound arrival.steps cluster arrival.later arrival.brings ready.sound arrival.run).config;
    }
