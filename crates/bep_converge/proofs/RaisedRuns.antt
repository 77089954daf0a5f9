-- What a run of steps that scan or bring a name leaves of indexes and links, and of the cluster as a whole.
use Rattle.std.proofs.Common.{◌≡◌, ◌⊎◌, ◌+◌, ◌≤◌, ℕ, zero, suc, Bool, true, false, nat_lt, List, [], ◌∷◌, ◌++◌, map, Some, None, refl, sym, subst, ◌∙◌, inl, inr, ⊎_elim, arith, if◌then◌else◌}
use Rattle.std.specs.Prelude.{⊤}
use Rattle.std.specs.FinMap.{get}
use Rattle.bep_model.specs.Tables.{Device, Folder, FileName}
use Rattle.bep_machine.specs.declared.moved.Moved.TheVariants.{Changed}
use Rattle.bep_machine.specs.declared.step.Step.{Step}
use Rattle.bep_machine.specs.declared.step.Step.TheVariants.{Edit, Remove, Scan, Override, Revert, Connect, Lose, Begin, Deliver, Announce, StartPull, Ask, Finish, Restart, Reset}
use Rattle.bep_machine.specs.Answer.{Done}
use Rattle.bep_machine.specs.Cluster.{Cluster}
use Rattle.bep_machine.specs.Laws.{StepsKeepSound}
use Rattle.bep_machine.specs.Replica.{Replica, own_at}
use Rattle.bep_machine.specs.Said.{looked_up}
use Rattle.bep_machine.specs.Sound.{IsSound}
use Rattle.bep_machine.specs.Steps.{IsRun}
use Rattle.bep_converge.specs.Bring.{done, repeated, connect, meet, hear, fetch, bring_steps}
use Rattle.bep_converge.proofs.BringSteps.{IsCalm, AreCalm}
use Rattle.bep_converge.proofs.RaisedEpochs.{EpochsRise}
use Rattle.bep_converge.proofs.RaisedIndexes.{IsBringing, opens, puts, EndsAt, step_rises}

-- ---- steps that bring

bringing_is_calm : (step : Step) → IsBringing step → IsCalm step
bringing_is_calm (Edit device folder name node) brings = absurd brings
bringing_is_calm (Remove device folder name) brings = absurd brings
bringing_is_calm (Scan device folder name) brings = record { quiet = tt; unreset = refl; sound = tt }
bringing_is_calm (Override device folder name) brings = absurd brings
bringing_is_calm (Revert device folder name) brings = absurd brings
bringing_is_calm (Connect one other) brings = record { quiet = tt; unreset = refl; sound = tt }
bringing_is_calm (Lose one other) brings = absurd brings
bringing_is_calm (Begin device other) brings = record { quiet = tt; unreset = refl; sound = tt }
bringing_is_calm (Deliver device other) brings = record { quiet = tt; unreset = refl; sound = tt }
bringing_is_calm (Announce device other folder) brings = record { quiet = tt; unreset = refl; sound = tt }
bringing_is_calm (StartPull device folder name) brings = record { quiet = tt; unreset = refl; sound = tt }
bringing_is_calm (Ask device other folder name) brings = record { quiet = tt; unreset = refl; sound = tt }
bringing_is_calm (Finish device folder name) brings = record { quiet = tt; unreset = refl; sound = tt }
bringing_is_calm (Restart device) brings = record { quiet = tt; unreset = refl; sound = tt }
bringing_is_calm (Reset device id) brings = absurd brings

-- all steps of a list are such; so many have a link come up, and so many put a record, under no name but this
abbrev pub AllBring : List Step → Type 0
AllBring [] = ⊤
AllBring (step ∷ more) = IsBringing step × AllBring more

abbrev pub all_open : List Step → ℕ
all_open [] = 0
all_open (step ∷ more) = opens step + all_open more

abbrev pub all_put : List Step → ℕ
all_put [] = 0
all_put (step ∷ more) = puts step + all_put more

abbrev pub EndIn : List Step → Device → Folder → FileName → Type 0
EndIn [] device folder name = ⊥
EndIn (step ∷ more) device folder name = EndsAt step device folder name ⊎ EndIn more device folder name

pub record BringsAt (device : Device) (folder : Folder) (name : FileName) (opening putting : ℕ) (steps : List Step) : Type 0 where
  pub all : AllBring steps
  pub open_few : all_open steps ≤ opening
  pub put_few : all_put steps ≤ putting
  pub ends : (other : Device) (any : Folder) (one : FileName) → EndIn steps other any one → (other ≡ device) × (any ≡ folder) × (one ≡ name)

module _ (device owner : Device) (folder : Folder) (name : FileName) where
  abbrev At : ℕ → ℕ → List Step → Type 0
  At opening putting steps = BringsAt device folder name opening putting steps

  nothing_at : At 0 0 []
  nothing_at = record { all = tt; open_few = omega arith; put_few = omega arith; ends = λ other any one ends. absurd ends }

  both_at : (opening putting o p : ℕ) (some more : List Step) → At opening putting some → At o p more → At (opening + o) (putting + p) (some ++ more)
  both_at opening putting o p [] more one two = record {
    all = two.all;
    open_few = let a = two.open_few in omega arith;
    put_few = let a = two.put_few in omega arith;
    ends = two.ends;
  }
  both_at opening putting o p (step ∷ some) more one two =
      let rest = both_at (all_open some) (all_put some) o p some more (record { all = one.all.1; open_few = omega arith; put_few = omega arith; ends = λ other any at ends. one.ends other any at (inr ends) }) two in
      record {
        all = (one.all.0, rest.all);
        open_few = let a = rest.open_few in let b = one.open_few in omega arith;
        put_few = let a = rest.put_few in let b = one.put_few in omega arith;
        ends = λ other any at ends. ⊎_elim (λ here. one.ends other any at (inl here)) (λ later. rest.ends other any at later) ends;
      }

  repeated_at : (times : ℕ) (steps : List Step) → At 0 0 steps → At 0 0 (repeated times steps)
  repeated_at zero steps one = nothing_at
  repeated_at (suc times) steps one = both_at 0 0 0 0 steps (repeated times steps) one (repeated_at times steps one)

  connect_at : (b : Bool) → At 1 0 ((if b then Connect device owner else Connect owner device) ∷ [])
  connect_at true = record { all = (tt, tt); open_few = omega arith; put_few = omega arith; ends = λ other any one ends. ⊎_elim (λ none. absurd none) (λ none. absurd none) ends }
  connect_at false = record { all = (tt, tt); open_few = omega arith; put_few = omega arith; ends = λ other any one ends. ⊎_elim (λ none. absurd none) (λ none. absurd none) ends }

  restarts_at : At 0 0 (Restart device ∷ Restart owner ∷ [])
  restarts_at = record {
    all = (tt, (tt, tt));
    open_few = omega arith;
    put_few = omega arith;
    ends = λ other any one ends. ⊎_elim (λ none. absurd none) (λ more. ⊎_elim (λ none. absurd none) (λ none. absurd none) more) ends;
  }

  talk_at : At 0 0 (Begin device owner ∷ Begin owner device ∷ Deliver device owner ∷ Deliver owner device ∷ [])
  talk_at = record {
    all = (tt, (tt, (tt, (tt, tt))));
    open_few = omega arith;
    put_few = omega arith;
    ends = λ other any one ends.
        ⊎_elim (λ none. absurd none) (λ more. ⊎_elim (λ none. absurd none) (λ rest. ⊎_elim (λ none. absurd none) (λ last. ⊎_elim (λ none. absurd none) (λ none. absurd none) last) rest) more) ends;
  }

  meet_at : At 1 0 (meet device owner)
  meet_at = both_at 0 0 1 0 (Restart device ∷ Restart owner ∷ []) _ restarts_at (both_at 1 0 0 0 (connect device owner ∷ []) _ (connect_at (nat_lt device owner)) talk_at)

  hear_at : At 0 0 (hear device owner folder)
  hear_at = record {
    all = (tt, (tt, tt));
    open_few = omega arith;
    put_few = omega arith;
    ends = λ other any one ends. ⊎_elim (λ none. absurd none) (λ more. ⊎_elim (λ none. absurd none) (λ none. absurd none) more) ends;
  }

  fetch_at : At 0 0 (fetch device owner folder name)
  fetch_at = record {
    all = (tt, (tt, (tt, tt)));
    open_few = omega arith;
    put_few = omega arith;
    ends = λ other any one ends. ⊎_elim (λ none. absurd none) (λ more. ⊎_elim (λ none. absurd none) (λ rest. ⊎_elim (λ none. absurd none) (λ none. absurd none) rest) more) ends;
  }

  begin_at : At 0 0 (StartPull device folder name ∷ [])
  begin_at = record { all = (tt, tt); open_few = omega arith; put_few = omega arith; ends = λ other any one ends. ⊎_elim (λ none. absurd none) (λ none. absurd none) ends }

  finish_at : At 0 1 (Finish device folder name ∷ [])
  finish_at = record { all = (tt, tt); open_few = omega arith; put_few = omega arith; ends = λ other any one ends. ⊎_elim (λ here. here) (λ none. absurd none) ends }

  pub bring_at : (batches blocks : ℕ) → At 1 1 (bring_steps device owner folder name batches blocks)
  bring_at batches blocks =
      both_at 1 0 0 1 (meet device owner) _ meet_at
      (both_at 0 0 0 1 (repeated batches (hear device owner folder)) _ (repeated_at batches (hear device owner folder) hear_at)
      (both_at 0 0 0 1 (StartPull device folder name ∷ []) _ begin_at
      (both_at 0 0 0 1 (repeated blocks (fetch device owner folder name)) _ (repeated_at blocks (fetch device owner folder name) fetch_at) finish_at)))

pub all_calm : (steps : List Step) → AllBring steps → AreCalm steps
all_calm [] all = tt
all_calm (step ∷ more) all = (bringing_is_calm step all.0, all_calm more all.1)

-- ---- a run

pub record RunRises (steps : List Step) (old new : Cluster) : Type 0 where
  pub sound : IsSound new
  pub config : new.config ≡ old.config
  pub epochs : EpochsRise (all_open steps) old new
  pub numbers : (device : Device) (folder : Folder) (replica : Replica) → get (new.peer device).replicas folder ≡ Some replica →
      (was : Replica) × (get (old.peer device).replicas folder ≡ Some was) × (replica.index.sequence ≤ was.index.sequence + all_put steps)
  pub own : (device : Device) (folder : Folder) (name : FileName) → ¬ EndIn steps device folder name →
      looked_up own_at name (get (new.peer device).replicas folder) ≡ looked_up own_at name (get (old.peer device).replicas folder)

pub run_rises : StepsKeepSound → (steps : List Step) (old new : Cluster) → AllBring steps → IsSound old → IsRun old (map done steps) new → RunRises steps old new
run_rises keep_sound [] old new all sound run =
    subst (λ (c : Cluster). RunRises [] old c) (sym run)
    (record {
      sound = sound;
      config = refl;
      epochs = λ one other. omega arith;
      numbers = λ device folder replica here. (replica, here, omega arith);
      own = λ device folder name none. refl;
    })
run_rises keep_sound (step ∷ more) old new all sound run =
    let next = run.0 in
    let one = step_rises step None old next (Done Changed) all.0 sound run.1 in
    let rest = run_rises keep_sound more next new all.1 (keep_sound step None old next (Done Changed) (bringing_is_calm step all.0).sound sound run.1) run.2 in
    record {
      sound = rest.sound;
      config = rest.config ∙ one.config;
      epochs = λ lower upper. let a = one.epochs lower upper in let b = rest.epochs lower upper in omega arith;
      numbers = λ device folder replica here.
          let later = rest.numbers device folder replica here in
          let before = (one.indexes device folder).numbers later.0 later.1 in
          let a = later.2 in
          let b = before.2 in
          (before.0, before.1, omega arith);
      own = λ device folder name none. rest.own device folder name (λ ends. none (inr ends)) ∙ (one.indexes device folder).own name (λ ends. none (inl ends));
    }
