-- What a device, or a link, does makes the halves of an event of its own, which tells of it.
use Rattle.std.proofs.Common.{◌≡◌, ◌≢◌, ◌⊎◌, ◌==◌, ◌&&◌, ℕ, Bool, true, false, Option, Some, None, refl, sym, ap, ◌∙◌, inl, inr, ⊎_elim, eq-eqb}
use Rattle.std.proofs.lemmas.Option.{same_Some}
use Rattle.std.specs.FinMap.{get}
use Rattle.bep_model.specs.Tables.{Device, Folder}
use Rattle.bep_machine.specs.declared.message.Message.{Message}
use Rattle.bep_machine.specs.declared.step.Step.{Step}
use Rattle.bep_machine.specs.declared.step.Step.TheVariants.{Edit, Remove, Scan, Override, Revert, Deliver, StartPull, Finish}
use Rattle.bep_machine.specs.Answer.{Answer, Row}
use Rattle.bep_machine.specs.Replica.{Replica}
use Rattle.bep_machine.specs.Local.{EditRow, RemoveRow, ScanRow, OverrideRow, RevertRow}
use Rattle.bep_machine.specs.Pull.{StartPullRow, FinishRow}
use Rattle.bep_machine.specs.Link.{Sight, end_of, sight_of, after_deed}
use Rattle.bep_machine.specs.Peer.{Peer, with_replica}
use Rattle.bep_machine.specs.declared.logged.Exchanged.TheVariants.{Sent, Took, Broke}
use Rattle.bep_machine.specs.declared.logged.Traffic.{Traffic}
use Rattle.bep_machine.specs.Halves.{has_answered, kept_told, only_call, IsSeen, IsDone, SaysNoMore, InFolder, OnlyIf}
use Rattle.bep_machine.specs.HalfLaws.{EditIsTold, RemoveIsTold, ScanIsTold, OverrideIsTold, RevertIsTold, StartPullIsTold, FinishIsTold, BeginIsTold, DeliverIsTold, AnnounceIsTold, AskIsTold, TrafficIsOne, ConnectIsTold, LoseIsTold, RestartIsTold, ResetIsTold}
use Rattle.bep_machine.proofs.CallsTold.{call_is_told}
use Rattle.bep_machine.proofs.LinkDeeds.{past, begin_tells, announce_tells, ask_tells, deliver_tells}
use Rattle.bep_machine.proofs.OnlyCall.{told_may_fail}
use Rattle.bep_machine.proofs.RowsTold.{RowTold, edit_told, remove_told, scan_told, override_told, revert_told, start_pull_told, finished_told}

make_touched : {S : Type 0} {half : Type 0} (old new : S) (b : Bool) → b ≡ true → half → OnlyIf b half old new
make_touched old new true is made = made
make_touched old new false is made = absurd (cc)

-- the device that acts is touched
make_own : {half : Type 0} (device : Device) (old new : Peer) → half → OnlyIf (device == device) half old new
make_own device old new = make_touched old new (device == device) (eq-eqb device device refl)

-- ---- in a folder

module _ (folder : Folder) (old : Peer) (before after : Replica) (answer : Answer) (is : get old.replicas folder ≡ Some before) (logs : IsDone answer ⊎ (after ≢ before)) where
  logged_half : (step : Step) (failed : Option ℕ) (told : Replica → Row Replica) → RowTold step failed (told before) before after answer →
      SaysNoMore step failed (kept_told answer) None × InFolder folder told (kept_told answer) old (with_replica old folder after)
  logged_half step failed told (inl stays) = ⊎_elim (λ done. absurd (stays.0 done)) (λ moved. absurd (moved stays.1)) logs
  logged_half step failed told (inr half) = (half.0, (before, after, answer, is, half.1, half.2, refl))

pub edit_is_told : EditIsTold
edit_is_told device folder name node failed old before after answer is made logs =
    make_own device old _ (logged_half folder old before after answer is logs (Edit device folder name node) None (EditRow name node None) (edit_told device folder name failed before after answer node made))

pub remove_is_told : RemoveIsTold
remove_is_told device folder name failed old before after answer is made logs =
    make_own device old _ (logged_half folder old before after answer is logs (Remove device folder name) None (RemoveRow name None) (remove_told device folder name failed before after answer made))

pub scan_is_told : ScanIsTold
scan_is_told device folder name failed old before after answer is made logs =
    make_own device old _ (logged_half folder old before after answer is logs (Scan device folder name) None (ScanRow device name None) (scan_told device folder name failed before after answer made))

pub override_is_told : OverrideIsTold
override_is_told device folder name failed old before after answer is made logs =
    make_own device old _ (logged_half folder old before after answer is logs (Override device folder name) None (OverrideRow device name) (override_told device folder name failed before after answer made))

pub revert_is_told : RevertIsTold
revert_is_told device folder name failed old before after answer is made logs =
    make_own device old _ (logged_half folder old before after answer is logs (Revert device folder name) None (RevertRow device name None) (revert_told device folder name failed before after answer made))

pub start_pull_is_told : StartPullIsTold
start_pull_is_told device folder name failed old before after answer is made logs =
    make_own device old _ (logged_half folder old before after answer is logs (StartPull device folder name) None (StartPullRow device name) (start_pull_told device folder name failed before after answer made))

pub finish_is_told : FinishIsTold
finish_is_told device folder name failed old before after answer is made logs =
    let call = only_call (kept_told answer) 4 failed in
    make_own device old _ (logged_half folder old before after answer is logs (Finish device folder name) call (FinishRow device name call) (finished_told device folder name failed before after answer made))

-- ---- over a link

pub begin_is_told : BeginIsTold
begin_is_told device other failed link old acted moved made =
    let told = begin_tells other (sight_of (end_of device other) link) old acted moved made in (
      record { epoch = link.epoch; done = told.0 },
      told.3,
      make_own device old acted.peer ((refl, refl), (moved, told.4)),
      (λ lower upper touched. make_touched link _ _ touched ((refl, refl), (told.1, refl, told.2, ap (λ deed. after_deed (end_of device other) deed link) told.3))),
    )

pub deliver_is_told : DeliverIsTold
deliver_is_told device other failed link old acted moved made =
    let told = deliver_tells other failed (sight_of (end_of device other) link) old acted moved made in
    let traffic : Option Traffic = Some (record { epoch = link.epoch; done = told.0 }) in
    let says : SaysNoMore (Deliver device other) (only_call (has_answered traffic) 1 failed) false traffic = (told_may_fail (has_answered traffic) 1 failed, refl) in (
      record { epoch = link.epoch; done = told.0 },
      told.3,
      make_own device old acted.peer (says, call_is_told other failed traffic old acted.peer (moved, told.4)),
      (λ lower upper touched. make_touched link _ _ touched (says, (told.1, refl, told.2, ap (λ deed. after_deed (end_of device other) deed link) told.3))),
    )

pub announce_is_told : AnnounceIsTold
announce_is_told device other folder failed link old acted moved made =
    let told = announce_tells other folder (sight_of (end_of device other) link) old acted moved made in (
      record { epoch = link.epoch; done = told.0 },
      told.3,
      make_own device old acted.peer ((refl, refl), (moved, told.4)),
      (λ lower upper touched. make_touched link _ _ touched ((refl, refl), (told.1, refl, told.2, ap (λ deed. after_deed (end_of device other) deed link) told.3))),
    )

pub ask_is_told : AskIsTold
ask_is_told device other folder name failed link old acted moved made =
    let told = ask_tells other folder name (sight_of (end_of device other) link) old acted moved made in (
      record { epoch = link.epoch; done = told.0 },
      told.3,
      make_own device old acted.peer ((refl, refl), (moved, told.4)),
      (λ lower upper touched. make_touched link _ _ touched ((refl, refl), (told.1, refl, told.2, ap (λ deed. after_deed (end_of device other) deed link) told.3))),
    )

-- what was taken is what waited
waited : (message : Message) (answer : Option Message) (sight : Sight) → IsSeen (Took message answer) sight → sight.waiting ≡ Some message
waited message None sight seen = seen
waited message (Some answer) sight seen = seen.0

pub traffic_is_one : TrafficIsOne
traffic_is_one (Sent message) (Sent other) sight same seen too = ap Sent (same_Some message other (ap (λ d. d.sends) same))
traffic_is_one (Sent message) (Took other answer) sight same seen too = let wrong : false ≡ true = ap (λ d. d.takes) same in absurd (cc)
traffic_is_one (Sent message) (Broke other) sight same seen too = let wrong : false ≡ true = ap (λ d. d.takes) same in absurd (cc)
traffic_is_one (Took message answer) (Sent other) sight same seen too = let wrong : true ≡ false = ap (λ d. d.takes) same in absurd (cc)
traffic_is_one (Took message answer) (Took other reply) sight same seen too =
    let first = same_Some message other (sym (waited message answer sight seen) ∙ waited other reply sight too) in
    λ i. Took (first i) (same i).sends
traffic_is_one (Took message answer) (Broke other) sight same seen too = let wrong : false ≡ true = ap (λ d. d.loses) same in absurd (cc)
traffic_is_one (Broke message) (Sent other) sight same seen too = let wrong : true ≡ false = ap (λ d. d.takes) same in absurd (cc)
traffic_is_one (Broke message) (Took other answer) sight same seen too = let wrong : true ≡ false = ap (λ d. d.loses) same in absurd (cc)
traffic_is_one (Broke message) (Broke other) sight same seen too = ap Broke (same_Some message other (sym seen ∙ too))

-- ---- a link by itself

own_link : (lower upper : Device) → ((lower == lower) && (upper == upper)) ≡ true
own_link lower upper = λ i. eq-eqb lower lower refl i && eq-eqb upper upper refl i

pub connect_is_told : ConnectIsTold
connect_is_told lower upper old new moved made =
    let down = past made in
    let more = past down.1 in
    make_touched old new _ (own_link lower upper) ((refl, refl, refl), inr (down.0, inr (more.0, (more.1.0, refl))))

pub lose_is_told : LoseIsTold
lose_is_told lower upper old new moved made =
    let up = past made in
    make_touched old new _ (own_link lower upper) ((refl, refl, refl), inr (up.0, (up.1.0, refl)))

pub restart_is_told : RestartIsTold
restart_is_told device = (
  (λ old. make_own device old _ ((refl, refl, refl), refl)),
  (λ lower upper old touched. make_touched old _ _ touched ((refl, refl, refl), refl)),
)

pub reset_is_told : ResetIsTold
reset_is_told device id = (
  (λ old above. make_own device old _ ((refl, refl, refl), (above, refl))),
  (λ lower upper old touched. make_touched old _ _ touched ((refl, refl, refl), refl)),
)
