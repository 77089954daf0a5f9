-- After one device's scans of the names that await them a cluster is ready.
use Rattle.std.proofs.Common.{◌≡◌, ℕ, List, [], ◌∷◌, ◌++◌, refl, sym, subst, arith}
use Rattle.bep_model.specs.Tables.{Device, Folder, FileName}
use Rattle.bep_machine.specs.declared.moved.Moved.{Moved}
use Rattle.bep_machine.specs.declared.step.Step.{Step}
use Rattle.bep_machine.specs.declared.step.Step.TheVariants.{Scan}
use Rattle.bep_machine.specs.Answer.{Answer, Done}
use Rattle.bep_machine.specs.Cluster.{Cluster}
use Rattle.bep_machine.specs.Laws.{IsSoundStep, StepsKeepSound}
use Rattle.bep_machine.specs.Said.{tables_of_cluster}
use Rattle.bep_machine.specs.Steps.{Event, IsStep, IsRun}
use Rattle.bep_converge.specs.Laws.{StepsKeepHashes}
use Rattle.bep_converge.specs.Bring.{IsJoinedUp, IsReached, IsReady}
use Rattle.bep_converge.specs.AfterLaws.{Places, AreScans, ScanMakesTop, ScansMakeTops}
use Rattle.bep_converge.specs.Arrival.{IsReadyToScan, ScansMakeReady}
use Rattle.bep_converge.proofs.BringSteps.{runs_on, sound_on}
use Rattle.bep_converge.proofs.RaisedIndexes.{StepRises, step_rises}
use Rattle.bep_converge.proofs.ScansTop.{IsScanned, scanned, none_comes, prevail_but_fewer}

-- a step more of a run
pub reached_on : (old new : Cluster) (event : Event) → IsSoundStep event.step → IsReached old → IsStep event.step event.failed old new event.answer → IsReached new
reached_on old new event is_sound reached step = record {
  first = reached.first;
  events = reached.events ++ event ∷ [];
  sound = reached.sound;
  apart = reached.apart;
  made = sound_on reached.events (event ∷ []) reached.made (is_sound, tt);
  run = runs_on reached.first old new reached.events (event ∷ []) reached.run (new, step, refl);
}

module _ (keep_sound : StepsKeepSound) (keep_hashes : StepsKeepHashes) (scan : ScanMakesTop) (device : Device) where
  -- one scan
  module _ (turns : ℕ) (old next : Cluster) (place : Folder × FileName) (places : Places) (ready : IsReadyToScan turns old device (place ∷ places)) (event : Event) (moved : Moved)
      (is_scan : event.step ≡ Scan device place.0 place.1) (is_done : event.answer ≡ Done moved) (step : IsStep event.step event.failed old next event.answer) where
    made : IsStep (Scan device place.0 place.1) event.failed old next (Done moved)
    made = subst (λ (s : Step). IsStep s event.failed old next (Done moved)) is_scan (subst (λ (a : Answer). IsStep event.step event.failed old next a) is_done step)

    ends : IsScanned (tables_of_cluster old) (tables_of_cluster next) device place.0 place.1
    ends = scanned scan old ready.sound device place places ready.prevails event.failed next moved made

    rises : StepRises (Scan device place.0 place.1) old next
    rises = step_rises (Scan device place.0 place.1) event.failed old next (Done moved) tt ready.sound made

    one_scanned : IsReadyToScan turns next device places
    one_scanned = record {
      sound = keep_sound (Scan device place.0 place.1) event.failed old next (Done moved) tt ready.sound made;
      hashes = keep_hashes (Scan device place.0 place.1) event.failed old next (Done moved) ready.hashes made;
      reached = reached_on old next event (subst (λ (s : Step). IsSoundStep s) (sym is_scan) tt) ready.reached step;
      prevails = prevail_but_fewer (tables_of_cluster old) (tables_of_cluster next) device place places ends ready.prevails;
      joined = subst IsJoinedUp (sym rises.config) ready.joined;
      room = record {
        numbers = λ other any replica here.
            let was = (rises.indexes other any).numbers replica here in
            let more = was.2 in
            let had = ready.room.numbers other any was.0 was.1 in
            omega arith;
        epochs = λ one other.
            let more = rises.epochs one other in
            let had = ready.room.epochs one other in
            omega arith;
        names = λ any records known. ready.room.names any records (λ one has. none_comes (tables_of_cluster old) (tables_of_cluster next) device place ends any one (known one has));
      };
    }

  scans_make_ready : (turns : ℕ) (old new : Cluster) (places : Places) (events : List Event) → ScansMakeTops → IsReadyToScan turns old device places → AreScans device places events → IsRun old events new → IsReady turns new
  scans_make_ready turns old new [] [] tops ready scans run =
      subst (λ (c : Cluster). IsReady turns c) (sym run)
      (record {
        sound = ready.sound;
        hashes = ready.hashes;
        reached = ready.reached;
        prevails = tops device [] old old [] ready.sound ready.prevails scans refl;
        joined = ready.joined;
        room = record {
          numbers = λ other any replica here. let had = ready.room.numbers other any replica here in omega arith;
          epochs = λ one other. let had = ready.room.epochs one other in omega arith;
          names = ready.room.names;
        };
      })
  scans_make_ready turns old new (place ∷ places) (event ∷ events) tops ready scans run =
      scans_make_ready turns run.0 new places events tops (one_scanned turns old run.0 place places ready event scans.1.0 scans.0 scans.1.1 run.1) scans.2 run.2
  scans_make_ready turns old new [] (event ∷ events) tops ready scans run = absurd scans
  scans_make_ready turns old new (place ∷ places) [] tops ready scans run = absurd scans

pub scans_make_ready_lem : StepsKeepSound → StepsKeepHashes → ScanMakesTop → ScansMakeTops → ScansMakeReady
scans_make_ready_lem keep_sound keep_hashes scan tops turns old new device places events ready scans run = scans_make_ready keep_sound keep_hashes scan device turns old new places events tops ready scans run
