-- What the steps of a log name is there, where the devices and links of a sound cluster replay it.
use Rattle.std.proofs.Common.{◌≡◌, ◌==◌, ℕ, Bool, false, Option, Some, None, [], ◌∷◌, Contains, refl, sym, subst, eq-eqb, unwrap_or}
use Rattle.std.specs.Ordering.{nat_cmp}
use Rattle.std.specs.Cmp.Lexicographic.{slice_cmp}
use Rattle.std.specs.FinMap.{get}
use Rattle.bep_facts.specs.Maps.{nothing_in_empty}
use Rattle.bep_record.specs.declared.entry.Entry.{Entry}
use Rattle.bep_index.specs.declared.send.Plan.{Plan}
use Rattle.bep_index.specs.Listing.{Listing}
use Rattle.bep_index.specs.View.{cleared}
use Rattle.bep_model.specs.Tables.{Device, Folder, FileName}
use Rattle.bep_machine.specs.declared.moved.Moved.{Moved}
use Rattle.bep_machine.specs.declared.step.Step.{Step}
use Rattle.bep_machine.specs.declared.step.Step.TheVariants.{Edit, Remove, Scan, Override, Revert, Connect, Lose, Begin, Deliver, Announce, StartPull, Ask, Finish, Restart, Reset}
use Rattle.bep_machine.specs.Answer.{Done, Row}
use Rattle.bep_machine.specs.Replica.{Replica, viewed_at}
use Rattle.bep_machine.specs.Local.{EditRow, RemoveRow, ScanRow, OverrideRow, RevertRow}
use Rattle.bep_machine.specs.Pull.{StartPullRow, FinishRow}
use Rattle.bep_machine.specs.Link.{Sight}
use Rattle.bep_machine.specs.Peer.{Session, Peer, Acted}
use Rattle.bep_machine.specs.Exchange.{CursorRow, AnnounceRow, AskRow}
use Rattle.bep_machine.specs.Cluster.{Config, Cluster}
use Rattle.bep_machine.specs.Steps.{SharesFolder, IsThere}
use Rattle.bep_machine.specs.Sound.{IsSoundPeer, IsSound}
use Rattle.bep_machine.specs.Laws.{StepsKeepSound}
use Rattle.bep_machine.specs.declared.logged.Traffic.{Traffic}
use Rattle.bep_machine.specs.Halves.{guards_of, SaysNoMore, InFolder, ByTraffic, OnlyIf}
use Rattle.bep_machine.specs.HalfLaws.{IsMadeBy, HalvesMakeTheStep, AreHeld, ReplaysAreThere}
use Rattle.bep_machine.proofs.HalfSteps.{touched, same_cluster}
use Rattle.bep_machine.proofs.LinkDeeds.{past}
use Rattle.bep_machine.proofs.ViewKept.{is_among_others}

module _ (config : Config) (device : Device) (old : Peer) (sound : IsSoundPeer config device old) where
  -- a folder that the device has is one that it shares
  has_shared : (folder : Folder) (replica : Replica) → get old.replicas folder ≡ Some replica → SharesFolder config device folder
  has_shared folder replica is = (replica.kind, (sound.fit folder replica is).kind)

  in_folder_there : (folder : Folder) (row : Replica → Row Replica) (kept : Bool) (new : Peer) → InFolder folder row kept old new → SharesFolder config device folder
  in_folder_there folder row kept new half = has_shared folder half.0 half.3

  -- both share what the device shares with the other
  both_share_it : (other : Device) (folder : Folder) (replica : Replica) → get old.replicas folder ≡ Some replica → Contains replica.others other →
      SharesFolder config device folder × SharesFolder config other folder
  both_share_it other folder replica is among = (has_shared folder replica is, (((sound.fit folder replica is).others other).0 among).1)

  announced_there : (other : Device) (folder : Folder) (full : Bool) (session : Session) (cursor : Option Plan) (acted : Acted) (moved : Moved) → get old.sessions other ≡ Some session → get session.cursors folder ≡ cursor →
      CursorRow other folder full session cursor old acted (Done moved) → SharesFolder config device folder × SharesFolder config other folder
  announced_there other folder full session None acted moved is found row = let wrong = row.1 in absurd (cc)
  announced_there other folder full session (Some cursor) acted moved is found row =
      let shares = (sound.sessions other session is).named folder cursor found in
      both_share_it other folder shares.0 shares.1 (is_among_others other shares.0.others shares.2)

  announce_there : (other : Device) (folder : Folder) (traffic : Option Traffic) (new : Peer) → ByTraffic (AnnounceRow other folder) traffic old new → SharesFolder config device folder × SharesFolder config other folder
  announce_there other folder None new half = absurd half
  announce_there other folder (Some traffic) new (moved, row) =
      let has = past (past row).1 in
      announced_there other folder false has.1.0 (get has.1.0.cursors folder) _ moved has.1.1.0 refl has.1.2

  -- a record is only seen in the view of a device that shares the folder
  viewed_there : (other : Device) (folder : Folder) (name : FileName) (replica : Replica) (entry : Entry) → get old.replicas folder ≡ Some replica → viewed_at replica other name ≡ Some entry → Contains replica.others other
  viewed_there other folder name replica entry is = cases (get replica.views other) refl
    where
      cases : (view : Option Listing) → get replica.views other ≡ view → get (unwrap_or view (cleared 0)).records name ≡ Some entry → Contains replica.others other
      cases None none seen = nothing_in_empty (slice_cmp nat_cmp) name entry seen
      cases (Some view) found seen = ((sound.replicas folder replica is).views other view found).shares

  ask_there : (other : Device) (folder : Folder) (name : FileName) (traffic : Option Traffic) (new : Peer) → ByTraffic (AskRow other folder name) traffic old new → SharesFolder config device folder × SharesFolder config other folder
  ask_there other folder name None new half = absurd half
  ask_there other folder name (Some traffic) new (moved, row) =
      let has = past (past row).1 in
      let asks = past (past has.1.2.2).1 in
      both_share_it other folder has.1.2.0 has.1.2.1 (viewed_there other folder name has.1.2.0 asks.1.1.viewed has.1.2.1 asks.1.1.seen)

-- ---- every step

module _ (old new : Cluster) (sound : IsSound old) where
  -- the device makes its half
  own_half : (device : Device) (half : Type 0) → OnlyIf (device == device) half (old.peer device) (new.peer device) → half
  own_half device half = touched (old.peer device) (new.peer device) (device == device) (eq-eqb device device refl)

  at_folder : (device : Device) (folder : Folder) (row : Replica → Row Replica) (kept : Bool) (Says : Type 0) → Contains old.config.devices device →
      OnlyIf (device == device) (Says × InFolder folder row kept (old.peer device) (new.peer device)) (old.peer device) (new.peer device) → SharesFolder old.config device folder
  at_folder device folder row kept Says held made =
      in_folder_there old.config device (old.peer device) (sound.peers device held) folder row kept (new.peer device)
      (own_half device (Says × InFolder folder row kept (old.peer device) (new.peer device)) made).1

  over_link : (device : Device) (row : Sight → Peer → Row Acted) (traffic : Option Traffic) (Says : Type 0) →
      OnlyIf (device == device) (Says × ByTraffic row traffic (old.peer device) (new.peer device)) (old.peer device) (new.peer device) → ByTraffic row traffic (old.peer device) (new.peer device)
  over_link device row traffic Says made = (own_half device (Says × ByTraffic row traffic (old.peer device) (new.peer device)) made).1

  there_made : (step : Step) (failed : Option ℕ) (kept : Bool) (traffic : Option Traffic) → AreHeld old.config (guards_of step) → IsMadeBy (record { step = step; failed = failed; kept = kept; traffic = traffic }) old new → IsThere old.config step
  there_made (Edit device folder name node) failed kept traffic held made = at_folder device folder (EditRow name node failed) kept (SaysNoMore (Edit device folder name node) failed kept traffic) held (made.peers device)
  there_made (Remove device folder name) failed kept traffic held made = at_folder device folder (RemoveRow name failed) kept (SaysNoMore (Remove device folder name) failed kept traffic) held (made.peers device)
  there_made (Scan device folder name) failed kept traffic held made = at_folder device folder (ScanRow device name failed) kept (SaysNoMore (Scan device folder name) failed kept traffic) held (made.peers device)
  there_made (Override device folder name) failed kept traffic held made = at_folder device folder (OverrideRow device name) kept (SaysNoMore (Override device folder name) failed kept traffic) held (made.peers device)
  there_made (Revert device folder name) failed kept traffic held made = at_folder device folder (RevertRow device name failed) kept (SaysNoMore (Revert device folder name) failed kept traffic) held (made.peers device)
  there_made (Connect one other) failed kept traffic held made = held
  there_made (Lose one other) failed kept traffic held made = held
  there_made (Begin device other) failed kept traffic held made = held.1
  there_made (Deliver device other) failed kept traffic held made = held.1
  there_made (Announce device other folder) failed kept traffic held made =
      let half = over_link device (AnnounceRow other folder) traffic (SaysNoMore (Announce device other folder) failed kept traffic) (made.peers device) in
      let shared = announce_there old.config device (old.peer device) (sound.peers device held.0) other folder traffic (new.peer device) half in
      (held.1, shared.0, shared.1)
  there_made (StartPull device folder name) failed kept traffic held made = at_folder device folder (StartPullRow device name) kept (SaysNoMore (StartPull device folder name) failed kept traffic) held (made.peers device)
  there_made (Ask device other folder name) failed kept traffic held made =
      let half = over_link device (AskRow other folder name) traffic (SaysNoMore (Ask device other folder name) failed kept traffic) (made.peers device) in
      let shared = ask_there old.config device (old.peer device) (sound.peers device held.0) other folder name traffic (new.peer device) half in
      (held.1, shared.0, shared.1)
  there_made (Finish device folder name) failed kept traffic held made = at_folder device folder (FinishRow device name failed) kept (SaysNoMore (Finish device folder name) failed kept traffic) held (made.peers device)
  there_made (Restart device) failed kept traffic held made = held
  there_made (Reset device id) failed kept traffic held made = held

-- ---- every log

module _ (make_step : HalvesMakeTheStep) (keeps_sound : StepsKeepSound) where
  pub replays_are_there_lem : ReplaysAreThere
  replays_are_there_lem old new [] sound held replayed =
      (tt, subst (λ c. IsSound c) (sym (same_cluster new old replayed.config replayed.peers replayed.links)) sound)
  replays_are_there_lem old new (event ∷ logged) sound held replayed =
      let next : Cluster = record { config = old.config; peer = λ device. (replayed.peers device).0; link = λ lower upper. (replayed.links lower upper).0 } in
      let made : IsMadeBy event old next = record { config = refl; peers = λ device. (replayed.peers device).1; links = λ lower upper. (replayed.links lower upper).1 } in
      let there = there_made old next sound event.step event.failed event.kept event.traffic held.0 made in
      let step = make_step event old next there made in
      let next_sound = keeps_sound event.step event.failed old next step.0 held.1 sound step.1 in
      let rest = replays_are_there_lem next new logged next_sound held.2 (record { config = replayed.config; peers = λ device. (replayed.peers device).2; links = λ lower upper. (replayed.links lower upper).2 }) in
      ((there, rest.0), rest.1)
