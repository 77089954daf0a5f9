-- Two replays of one base by one list of events end in one state.
use Rattle.std.proofs.Common.{◌≡◌, ◌∙◌, ℕ, Bool, true, false, Option, Some, None, option_map, List, [], ◌∷◌, Contains, refl, sym, ap, subst, ⊎_elim, eqb-true}
use Rattle.std.proofs.lemmas.Option.{same_Some}
use Rattle.std.specs.FinMap.{get}
use Rattle.bep_record.specs.declared.folder_kind.FolderKind.{FolderKind}
use Rattle.bep_record.specs.Laws.{MergeIsUnique, BumpIsUnique}
use Rattle.bep_model.specs.Tables.{Device, Folder, FileName}
use Rattle.bep_machine.specs.declared.step.Step.{Step}
use Rattle.bep_machine.specs.declared.step.Step.TheVariants.{Edit, Remove, Scan, Override, Revert, Connect, Lose, Begin, Deliver, Announce, StartPull, Ask, Finish, Restart, Reset}
use Rattle.bep_machine.specs.Answer.{Answer, Done, OutOfMemory, Row}
use Rattle.bep_machine.specs.Replica.{Replica, own_at, node_at, with_node}
use Rattle.bep_machine.specs.Local.{EditRow, RemoveRow, ScanRow, OverrideRow, RevertRow}
use Rattle.bep_machine.specs.Pull.{StartPullRow, FinishRow, copy_name}
use Rattle.bep_machine.specs.Link.{Link, Sight, End, end_of}
use Rattle.bep_machine.specs.Peer.{Peer, Acted, with_replica}
use Rattle.bep_machine.specs.Exchange.{BeginRow, DeliverRow, AnnounceRow, AskRow}
use Rattle.bep_machine.specs.Undone.{KeepsCopy}
use Rattle.bep_machine.specs.declared.logged.Logged.{Logged}
use Rattle.bep_machine.specs.declared.logged.Traffic.{Traffic}
use Rattle.bep_machine.specs.Halves.{guards_of, touches_device, touches_link, IsDone, SaysNoMore, Ends, InFolder, ByTraffic, PeerHalf, Carries, LinkHalf, OnlyIf, PeerStep, LinkStep, Replays}
use Rattle.bep_machine.specs.HalfLaws.{Keeps, shared_as}
use Rattle.bep_machine.specs.Determined.{SharesWithOthers, DevicesReplayOneWay, LinksReplayOneWay}
use Rattle.bep_machine.proofs.FoldersFixed.{step_keeps_sharing}
use Rattle.bep_machine.proofs.FoundAfter.{some_before}
use Rattle.bep_machine.proofs.LinkDeeds.{past}
use Rattle.bep_machine.proofs.OneOutcome.{HasOneOutcome}
use Rattle.bep_machine.proofs.OneChoice.{ChoiceIsUnique, HasOneChoice, one_choice}
use Rattle.bep_machine.proofs.OneOutcomeLocal.{edit_one_outcome, remove_one_outcome, scan_one_outcome, override_one_outcome, revert_one_outcome}
use Rattle.bep_machine.proofs.OneOutcomePull.{start_pull_one_outcome, finish_one_outcome}
use Rattle.bep_machine.proofs.OneOutcomeLink.{begin_one_outcome, deliver_one_outcome, announce_one_outcome, ask_one_outcome}
use Rattle.bep_machine.proofs.UndoneSteps.{finish_left}

-- ---- a step in a folder

-- what a step that ends so makes of a replica is one
abbrev HasOneEnd : (Replica → Row Replica) → Bool → Replica → Type 0
HasOneEnd row kept before = (one other : Replica) (answer reply : Answer) → row before one answer → row before other reply → Ends kept answer before one → Ends kept reply before other → one ≡ other

-- memory wasn't wanting in a step that was done
had_memory : (answer : Answer) → IsDone answer → ¬ (answer ≡ OutOfMemory)
had_memory answer done wants = subst IsDone wants done

done_end : (row : Replica → Row Replica) (before : Replica) → HasOneOutcome (row before) → HasOneEnd row false before
done_end row before once one other answer reply made too done done_too =
    (once one other answer reply made too (had_memory answer done) (had_memory reply done_too)).0

-- only the copy was kept
copy_end : (device : Device) (name : FileName) (failed : Option ℕ) (before : Replica) → HasOneEnd (FinishRow device name failed) true before
copy_end device name failed before one other answer reply made too ends ends_too =
    copied one answer made ends ∙ sym (copied other reply too ends_too)
  where
    copied : (after : Replica) (given : Answer) → FinishRow device name failed before after given → Ends true given before after → after ≡ with_node before (copy_name (own_at before name)) (node_at before name)
    copied after given row (undone, moved) =
        ⊎_elim
        (λ same. absurd (moved same))
        (λ (keeps : KeepsCopy device name before after). keeps.5)
        (finish_left device name failed before after given row undone)

in_folder_once : (folder : Folder) (row : Replica → Row Replica) (kept : Bool) (old one other : Peer) → ((before : Replica) → get old.replicas folder ≡ Some before → HasOneEnd row kept before) →
    InFolder folder row kept old one → InFolder folder row kept old other → one ≡ other
in_folder_once folder row kept old one other each (before, after, answer, is, made, ends, same) (was, later, reply, is_too, made_too, ends_too, same_too) =
    same ∙ ap (with_replica old folder) (each before is after later answer reply made (subst (λ (r : Replica). row r later reply) back made_too) ends (subst (λ (r : Replica). Ends kept reply r later) back ends_too)) ∙ sym same_too
  where
    back : was ≡ before
    back = same_Some was before (sym is_too ∙ is)

-- so of a step that keeps no copy
done_once : (folder : Folder) (row : Replica → Row Replica) (kept : Bool) (old one other : Peer) → kept ≡ false → ((before : Replica) → get old.replicas folder ≡ Some before → HasOneOutcome (row before)) →
    InFolder folder row kept old one → InFolder folder row kept old other → one ≡ other
done_once folder row kept old one other unkept each made too =
    in_folder_once folder row false old one other (λ before is. done_end row before (each before is))
    (subst (λ k. InFolder folder row k old one) unkept made) (subst (λ k. InFolder folder row k old other) unkept too)

-- ---- a step over a link

by_traffic_once : (row : Sight → Peer → Row Acted) (traffic : Option Traffic) (old one other : Peer) → ((sight : Sight) → HasOneOutcome (row sight old)) →
    ByTraffic row traffic old one → ByTraffic row traffic old other → one ≡ other
by_traffic_once row None old one other each made too = absurd made
by_traffic_once row (Some traffic) old one other each (moved, made) (moved_too, too) =
    ap (λ (a : Acted). a.peer) (each _ _ _ (Done moved) (Done moved_too) made too (had_memory (Done moved) tt) (had_memory (Done moved_too) tt)).0

-- ---- a device

module _ (choice : ChoiceIsUnique) (merge : MergeIsUnique) (bump : BumpIsUnique) where
  choice_in : (device : Device) (old : Peer) → SharesWithOthers device old → (folder : Folder) (before : Replica) → get old.replicas folder ≡ Some before → HasOneChoice device before
  choice_in device old apart folder before is = one_choice device before (apart folder before is) choice

  -- the device that the step names first is the one that makes its half
  half_once : (device : Device) (step : Step) (failed : Option ℕ) (kept : Bool) (traffic : Option Traffic) (old one other : Peer) → SharesWithOthers device old → touches_device (guards_of step) device ≡ true →
      SaysNoMore step failed kept traffic → PeerHalf step failed kept traffic old one → PeerHalf step failed kept traffic old other → one ≡ other
  half_once device (Edit at folder name node) failed kept traffic old one other apart here says = done_once folder (EditRow name node failed) kept old one other says.1 (λ before is. edit_one_outcome name node failed before)
  half_once device (Remove at folder name) failed kept traffic old one other apart here says = done_once folder (RemoveRow name failed) kept old one other says.1 (λ before is. remove_one_outcome name failed before)
  half_once device (Scan at folder name) failed kept traffic old one other apart here says = done_once folder (ScanRow at name failed) kept old one other says.1 (λ before is. scan_one_outcome bump at name failed before)
  half_once device (Override at folder name) failed kept traffic old one other apart here says =
      done_once folder (OverrideRow at name) kept old one other says.1
      (λ before is. override_one_outcome bump at name before (subst (λ d. HasOneChoice d before) (eqb-true device at here) (choice_in device old apart folder before is)))
  half_once device (Revert at folder name) failed kept traffic old one other apart here says = done_once folder (RevertRow at name failed) kept old one other says.1 (λ before is. revert_one_outcome at name failed before)
  half_once device (Connect lower upper) failed kept traffic old one other apart here says = λ half. absurd half
  half_once device (Lose lower upper) failed kept traffic old one other apart here says = λ half. absurd half
  half_once device (Begin at with) failed kept traffic old one other apart here says = by_traffic_once (BeginRow with) traffic old one other (λ sight. begin_one_outcome with sight old)
  half_once device (Deliver at with) failed kept traffic old one other apart here says = by_traffic_once (DeliverRow with failed) traffic old one other (λ sight. deliver_one_outcome with failed sight old)
  half_once device (Announce at with folder) failed kept traffic old one other apart here says = by_traffic_once (AnnounceRow with folder) traffic old one other (λ sight. announce_one_outcome with folder sight old)
  half_once device (StartPull at folder name) failed kept traffic old one other apart here says =
      done_once folder (StartPullRow at name) kept old one other says.1
      (λ before is. start_pull_one_outcome at name before (subst (λ d. HasOneChoice d before) (eqb-true device at here) (choice_in device old apart folder before is)))
  half_once device (Ask at with folder name) failed kept traffic old one other apart here says = by_traffic_once (AskRow with folder name) traffic old one other (λ sight. ask_one_outcome with folder name sight old)
  half_once device (Finish at folder name) failed kept traffic old one other apart here says = in_folder_once folder (FinishRow at name failed) kept old one other (λ before is. ended kept before)
    where
      ended : (keeps : Bool) (before : Replica) → HasOneEnd (FinishRow at name failed) keeps before
      ended false before = done_end (FinishRow at name failed) before (finish_one_outcome merge at name failed before)
      ended true before = copy_end at name failed before
  half_once device (Restart at) failed kept traffic old one other apart here says = λ made too. made ∙ sym too
  half_once device (Reset at id) failed kept traffic old one other apart here says = λ made too. made.1 ∙ sym too.1

  device_once : (device : Device) (event : Logged) (old one other : Peer) → SharesWithOthers device old → PeerStep device event old one → PeerStep device event old other → one ≡ other
  device_once device event old one other apart = cases (touches_device (guards_of event.step) device) refl
    where
      Half : Peer → Type 0
      Half new = SaysNoMore event.step event.failed event.kept event.traffic × PeerHalf event.step event.failed event.kept event.traffic old new

      cases : (b : Bool) → touches_device (guards_of event.step) device ≡ b → OnlyIf b (Half one) old one → OnlyIf b (Half other) old other → one ≡ other
      cases true here made too = half_once device event.step event.failed event.kept event.traffic old one other apart here made.0 made.1 too.1
      cases false here same too = same ∙ sym too

-- who shares a folder stays
shares_still : (device : Device) (old new : Peer) → Keeps shared_as old new → SharesWithOthers device old → SharesWithOthers device new
shares_still device old new keeps apart folder replica is member =
    let before = some_before shared_as (get old.replicas folder) (shared_as replica) (sym (keeps folder) ∙ ap (option_map shared_as) is) in
    apart folder before.0 before.1 (subst (λ (s : FolderKind × List Device). Contains s.1 device) (sym before.2) member)

-- ---- a link

carries_once : (end : End) (traffic : Option Traffic) (old one other : Link) → Carries end traffic old one → Carries end traffic old other → one ≡ other
carries_once end None old one other made too = absurd made
carries_once end (Some traffic) old one other made too = made.3 ∙ sym too.3

link_once : (step : Step) (traffic : Option Traffic) (old one other : Link) → LinkHalf step traffic old one → LinkHalf step traffic old other → one ≡ other
link_once (Edit device folder name node) traffic old one other = λ half. absurd half
link_once (Remove device folder name) traffic old one other = λ half. absurd half
link_once (Scan device folder name) traffic old one other = λ half. absurd half
link_once (Override device folder name) traffic old one other = λ half. absurd half
link_once (Revert device folder name) traffic old one other = λ half. absurd half
link_once (Connect lower upper) traffic old one other = λ made too. (past (past made).1).1.0 ∙ sym (past (past too).1).1.0
link_once (Lose lower upper) traffic old one other = λ made too. (past made).1.0 ∙ sym (past too).1.0
link_once (Begin device with) traffic old one other = carries_once (end_of device with) traffic old one other
link_once (Deliver device with) traffic old one other = carries_once (end_of device with) traffic old one other
link_once (Announce device with folder) traffic old one other = carries_once (end_of device with) traffic old one other
link_once (StartPull device folder name) traffic old one other = λ half. absurd half
link_once (Ask device with folder name) traffic old one other = carries_once (end_of device with) traffic old one other
link_once (Finish device folder name) traffic old one other = λ half. absurd half
link_once (Restart device) traffic old one other = λ made too. made ∙ sym too
link_once (Reset device id) traffic old one other = λ made too. made ∙ sym too

link_step_once : (lower upper : Device) (event : Logged) (old one other : Link) → LinkStep lower upper event old one → LinkStep lower upper event old other → one ≡ other
link_step_once lower upper event old one other = cases (touches_link (guards_of event.step) lower upper)
  where
    Half : Link → Type 0
    Half new = SaysNoMore event.step event.failed event.kept event.traffic × LinkHalf event.step event.traffic old new

    cases : (b : Bool) → OnlyIf b (Half one) old one → OnlyIf b (Half other) old other → one ≡ other
    cases true made too = link_once event.step event.traffic old one other made.1 too.1
    cases false same too = same ∙ sym too

-- ---- replays

module _ {S : Type 0} (Step : Logged → S → S → Type 0) (Holds : S → Type 0) (once : (event : Logged) (old one other : S) → Holds old → Step event old one → Step event old other → one ≡ other) (holds : (event : Logged) (old new : S) → Holds old → Step event old new → Holds new) where
  replays_once : (old one other : S) (logged : List Logged) → Holds old → Replays Step old logged one → Replays Step old logged other → one ≡ other
  replays_once old one other [] held made too = made ∙ sym too
  replays_once old one other (event ∷ more) held (next, step, rest) (later, step_too, rest_too) =
      replays_once next one other more (holds event old next held step) rest
      (subst (λ s. Replays Step s more other) (sym (once event old next later held step step_too)) rest_too)

pub devices_replay_one_way_lem : ChoiceIsUnique → MergeIsUnique → BumpIsUnique → DevicesReplayOneWay
devices_replay_one_way_lem choice merge bump device old one other logged =
    replays_once (PeerStep device) (SharesWithOthers device) (device_once choice merge bump device)
    (λ event old new apart step. shares_still device old new (step_keeps_sharing device event old new step) apart)
    old one other logged

pub links_replay_one_way_lem : LinksReplayOneWay
links_replay_one_way_lem lower upper old one other logged made too =
    replays_once (LinkStep lower upper) (λ (link : Link). link ≡ link) (λ event old one other held. link_step_once lower upper event old one other) (λ event old new held step. refl)
    old one other logged refl made too
