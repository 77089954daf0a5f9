-- What is known of the steps in a log stays, whatever turns do.
use Rattle.std.proofs.Common.{◌≡◌, ◌++◌, ◌&&◌, ℕ, Bool, true, false, List, [], ◌∷◌, Option, Some, None, option_map, if◌then◌else◌, Result, Ok, Err, inl, inr, refl, ap, ◌∙◌}
use Rattle.bep_fit.specs.declared.stamped.Stamped.{Stamped}
use Rattle.bep_model.specs.Tables.{Device, Folder, FileName}
use Rattle.bep_machine.specs.declared.logged.Logged.{Logged}
use Rattle.bep_machine.specs.declared.message.Message.{Message}
use Rattle.bep_machine.specs.declared.moved.Moved.{Moved}
use Rattle.bep_machine.specs.declared.refusal.Refusal.TheVariants as refusals
use Rattle.bep_machine.specs.declared.step.Step.{Step}
use Rattle.bep_machine.specs.declared.step.Step.TheVariants as steps
use Rattle.bep_machine.specs.Answer.{Row}
use Rattle.bep_machine.specs.Link.{Link}
use Rattle.bep_peer.specs.declared.error.PeerError.{PeerError}
use Rattle.bep_peer.specs.declared.error.PeerError.TheVariants as peer
use Rattle.bep_peer.specs.declared.trace.Trace.{Trace}
use Rattle.bep_peer.specs.network.Network.{Network}
use Rattle.bep_log.specs.Acts.{ActsIn, Does, LogsIn}
use Rattle.bep_log.specs.ActsOver.{ActsOver, AreSame, LogsOver, event_for, event_over}
use Rattle.bep_log.specs.Event.{event_of, event_told}
use Rattle.bep_log.specs.History.{with_events}
use Rattle.bep_log.specs.LoggedLink.{LinkLogs, LoggedBetween}
use Rattle.bep_log.specs.LoggedPeer.{LoggedMember}
use Rattle.bep_log.specs.Over.{Doing, announces, asks, begins, delivers, other_end, ready_for}
use Rattle.bep_log.specs.Restart.{LinkLeaves, Restarts}
use Rattle.bep_log.specs.declared.error.LogError.{LogError}
use Rattle.bep_log.specs.declared.error.LogError.TheVariants.{TicketOld, LogFull, Refused, Stale, Memory}
use Rattle.bep_log.specs.declared.ready.Ready.{Ready}
use Rattle.bep_run.proofs.Still.{both_pass, first_passes, rest_passes}
use Rattle.bep_run.specs.Quiet.{are_quiet, is_quiet, quiet_log}

-- ---- one event more

-- the event that is logged is of a quiet step, if one is
abbrev quiet_event : Option Logged → Bool
quiet_event None = true
quiet_event (Some event) = is_quiet event.step

with_one : (log : List Stamped) (one : Stamped) → are_quiet log ≡ true → is_quiet one.event.step ≡ true → are_quiet (log ++ one ∷ []) ≡ true
with_one [] one quiet is = ap (λ b. b && true) is
with_one (first ∷ more) one quiet is =
    both_pass (is_quiet first.event.step) (are_quiet (more ++ one ∷ []))
    (first_passes (is_quiet first.event.step) (are_quiet more) quiet)
    (with_one more one (rest_passes (is_quiet first.event.step) (are_quiet more) quiet) is)

with_told : (start : Option Network) (log : List Stamped) (ticket : ℕ) (event : Option Logged) → quiet_event event ≡ true → quiet_log start log ≡ true → quiet_log start (with_events log ticket event) ≡ true
with_told None log ticket event is quiet = refl
with_told (Some origin) log ticket None is quiet = quiet
with_told (Some origin) log ticket (Some event) is quiet = with_one log (record { ticket = ticket; event = event }) quiet is

told_on : (start : Option Network) (old new : List Stamped) (ticket : ℕ) (event : Option Logged) → new ≡ with_events old ticket event → quiet_event event ≡ true → quiet_log start old ≡ true → quiet_log start new ≡ true
told_on start old new ticket event told is quiet = ap (quiet_log start) told ∙ with_told start old ticket event is quiet

-- what an action in a folder tells is of its step
if_told : (tells : Bool) (event : Logged) → is_quiet event.step ≡ true → quiet_event (if tells then Some event else None) ≡ true
if_told true event is = is
if_told false event is = refl

told_within : (step : Step) (answer : Result Moved PeerError) (trace : Trace) → is_quiet step ≡ true → quiet_event (event_told step answer trace) ≡ true
told_within step (Ok moved) trace is = is
told_within step (Err error) trace is = if_told trace.copied (event_of step trace.failed true None) is

-- and what one over a link tells is of the step that was ready
told_over : (ready : Ready) (answer : Result Moved PeerError) (failed : Option ℕ) (sent : Option Message) (up : Bool) → is_quiet ready.step ≡ true → quiet_event (event_for ready answer failed sent up) ≡ true
told_over ready (Ok moved) failed sent up is = is
told_over ready (Err error) failed sent up is = refl

-- ---- of a device

same_log : (start : Option Network) (old new : LoggedMember) → new ≡ old → quiet_log start old.log ≡ true → quiet_log start new.log ≡ true
same_log start old new same quiet = ap (λ (one : LoggedMember). quiet_log start one.log) same ∙ quiet

acted_in : (start : Option Network) (name : Option FileName) (folder : Folder) (does : Does) (step : Step) (ticket : ℕ) (old new : LoggedMember) (answer : Result Moved PeerError) → ActsIn name folder does step ticket old new answer → is_quiet step ≡ true → quiet_log start old.log ≡ true → quiet_log start new.log ≡ true
acted_in start name folder does step ticket old new answer acts is quiet =
    told_on start old.log new.log ticket (event_told step answer acts.left.trace) acts.told.log (told_within step answer acts.left.trace is) quiet

pub quiet_in : (start : Option Network) (name : Option FileName) (folder : Folder) (does : Does) (step : Step) (ticket : ℕ) (old new : LoggedMember) (answer : Result Moved LogError) → LogsIn name folder does step ticket old new answer → is_quiet step ≡ true → quiet_log start old.log ≡ true → quiet_log start new.log ≡ true
quiet_in start name folder does step ticket old new (Ok moved) logs is quiet = acted_in start name folder does step ticket old new (Ok moved) logs.1 is quiet
quiet_in start name folder does step ticket old new (Err TicketOld) logs is quiet = same_log start old new logs.1 quiet
quiet_in start name folder does step ticket old new (Err LogFull) logs is quiet = same_log start old new logs.2 quiet
quiet_in start name folder does step ticket old new (Err (Refused refusal)) logs is quiet = acted_in start name folder does step ticket old new (Err (peer.Refused refusal)) logs.1 is quiet
quiet_in start name folder does step ticket old new (Err Stale) logs is quiet = acted_in start name folder does step ticket old new (Err peer.Stale) logs.1 is quiet
quiet_in start name folder does step ticket old new (Err Memory) (may, inl same) is quiet = same_log start old new same quiet
quiet_in start name folder does step ticket old new (Err Memory) (may, inr acts) is quiet = acted_in start name folder does step ticket old new (Err peer.Memory) acts is quiet

pub quiet_restarted : (start : Option Network) (ticket : ℕ) (old new : LoggedMember) (answer : Result (Unit {0}) LogError) → Restarts ticket old new answer → quiet_log start old.log ≡ true → quiet_log start new.log ≡ true
quiet_restarted start ticket old new (Ok done) logs quiet = told_on start old.log new.log ticket (Some (event_of (steps.Restart old.now.number) None false None)) logs.3.log refl quiet
quiet_restarted start ticket old new (Err TicketOld) logs quiet = same_log start old new logs.1 quiet
quiet_restarted start ticket old new (Err LogFull) logs quiet = same_log start old new logs.2 quiet
quiet_restarted start ticket old new (Err (Refused refusal)) logs quiet = elim logs [ ]
quiet_restarted start ticket old new (Err Stale) logs quiet = elim logs [ ]
quiet_restarted start ticket old new (Err Memory) logs quiet = same_log start old new logs.1 quiet

-- ---- over a link

same_link_log : (start : Option Network) (old new : LoggedBetween) → new ≡ old → quiet_log start old.log ≡ true → quiet_log start new.log ≡ true
same_link_log start old new same quiet = ap (λ (one : LoggedBetween). quiet_log start one.log) same ∙ quiet

-- the action's step is quiet, whichever the two devices are
abbrev pub IsQuietDoing : Doing → Type 0
IsQuietDoing action = (device other : Device) → is_quiet (action.step device other) ≡ true

-- both logs, one after the other
abbrev pub StayQuiet : Option Network → LoggedMember → LoggedMember → LoggedBetween → LoggedBetween → Type 0
StayQuiet start old new link after =
    (quiet_log start old.log ≡ true → quiet_log start new.log ≡ true) × (quiet_log start link.log ≡ true → quiet_log start after.log ≡ true)

acted_over : (start : Option Network) (action : Doing) (ticket : ℕ) (old new : LoggedMember) (link after : LoggedBetween) (answer : Result Moved PeerError) → ActsOver action ticket old new link after answer → IsQuietDoing action → StayQuiet start old new link after
acted_over start action ticket old new link after answer acts is =
    let told = event_over action old.now link.now after.now acts.left.trace answer in
    let ready = ready_for action old.now.number link.now in
    let quiet_told = told_over ready answer acts.left.trace.failed (option_map (λ (put : Message × Message). put.0) acts.left.trace.put) after.now.link.up (is old.now.number (other_end link.now.ends old.now.number)) in
    (told_on start old.log new.log ticket told acts.told.log quiet_told, told_on start link.log after.log ticket told acts.link_told.log quiet_told)

same_both : (start : Option Network) (old new : LoggedMember) (link after : LoggedBetween) → AreSame old new link after → StayQuiet start old new link after
same_both start old new link after same = (same_log start old new same.device, same_link_log start link after same.link)

quiet_over : (start : Option Network) (action : Doing) (ticket : ℕ) (old new : LoggedMember) (link after : LoggedBetween) (answer : Result Moved LogError) → LogsOver action ticket old new link after answer → IsQuietDoing action → StayQuiet start old new link after
quiet_over start action ticket old new link after (Ok moved) logs is = acted_over start action ticket old new link after (Ok moved) logs.1 is
quiet_over start action ticket old new link after (Err TicketOld) logs is = same_both start old new link after logs.1
quiet_over start action ticket old new link after (Err LogFull) logs is = same_both start old new link after logs.3
quiet_over start action ticket old new link after (Err (Refused refusal)) logs is = acted_over start action ticket old new link after (Err (peer.Refused refusal)) logs.1 is
quiet_over start action ticket old new link after (Err Stale) logs is = elim logs [ ]
quiet_over start action ticket old new link after (Err Memory) (may, inl same) is = same_both start old new link after same
quiet_over start action ticket old new link after (Err Memory) (may, inr acts) is = acted_over start action ticket old new link after (Err peer.Memory) acts is

pub quiet_begun : (start : Option Network) (ticket : ℕ) (old new : LoggedMember) (link after : LoggedBetween) (answer : Result Moved LogError) → LogsOver begins ticket old new link after answer → StayQuiet start old new link after
quiet_begun start ticket old new link after answer logs = quiet_over start begins ticket old new link after answer logs (λ device other. refl)

pub quiet_delivered : (start : Option Network) (ticket : ℕ) (old new : LoggedMember) (link after : LoggedBetween) (answer : Result Moved LogError) → LogsOver delivers ticket old new link after answer → StayQuiet start old new link after
quiet_delivered start ticket old new link after answer logs = quiet_over start delivers ticket old new link after answer logs (λ device other. refl)

pub quiet_announced : (start : Option Network) (folder : Folder) (ticket : ℕ) (old new : LoggedMember) (link after : LoggedBetween) (answer : Result Moved LogError) → LogsOver (announces folder) ticket old new link after answer → StayQuiet start old new link after
quiet_announced start folder ticket old new link after answer logs = quiet_over start (announces folder) ticket old new link after answer logs (λ device other. refl)

pub quiet_asked : (start : Option Network) (folder : Folder) (name : FileName) (ticket : ℕ) (old new : LoggedMember) (link after : LoggedBetween) (answer : Result Moved LogError) → LogsOver (asks folder name) ticket old new link after answer → StayQuiet start old new link after
quiet_asked start folder name ticket old new link after answer logs = quiet_over start (asks folder name) ticket old new link after answer logs (λ device other. refl)

-- ---- of a link

pub quiet_link : (start : Option Network) (step : Step) (row : Link → Row Link) (ticket : ℕ) (old new : LoggedBetween) (answer : Result (Unit {0}) LogError) → LinkLogs step row ticket old new answer → is_quiet step ≡ true → quiet_log start old.log ≡ true → quiet_log start new.log ≡ true
quiet_link start step row ticket old new (Ok done) logs is quiet = told_on start old.log new.log ticket (Some (event_of step None false None)) logs.3.log is quiet
quiet_link start step row ticket old new (Err TicketOld) logs is quiet = same_link_log start old new logs.1 quiet
quiet_link start step row ticket old new (Err LogFull) logs is quiet = same_link_log start old new logs.2 quiet
quiet_link start step row ticket old new (Err (Refused refusal)) logs is quiet = same_link_log start old new logs.2 quiet
quiet_link start step row ticket old new (Err Stale) logs is quiet = elim logs [ ]
quiet_link start step row ticket old new (Err Memory) logs is quiet = same_link_log start old new logs.1 quiet

pub quiet_left : (start : Option Network) (step : Step) (device : Device) (ticket : ℕ) (old new : LoggedBetween) (answer : Result (Unit {0}) LogError) → LinkLeaves step device ticket old new answer → is_quiet step ≡ true → quiet_log start old.log ≡ true → quiet_log start new.log ≡ true
quiet_left start step device ticket old new (Ok done) logs is quiet = told_on start old.log new.log ticket (Some (event_of step None false None)) logs.3.log is quiet
quiet_left start step device ticket old new (Err TicketOld) logs is quiet = same_link_log start old new logs.1 quiet
quiet_left start step device ticket old new (Err LogFull) logs is quiet = same_link_log start old new logs.2 quiet
quiet_left start step device ticket old new (Err (Refused refusals.NotShared)) logs is quiet = same_link_log start old new logs.3 quiet
quiet_left start step device ticket old new (Err (Refused refusals.CounterFull)) logs is quiet = elim logs [ ]
quiet_left start step device ticket old new (Err (Refused refusals.TooManyCounters)) logs is quiet = elim logs [ ]
quiet_left start step device ticket old new (Err (Refused refusals.NameBad)) logs is quiet = elim logs [ ]
quiet_left start step device ticket old new (Err (Refused refusals.SequenceFull)) logs is quiet = elim logs [ ]
quiet_left start step device ticket old new (Err (Refused refusals.IndexFull)) logs is quiet = elim logs [ ]
quiet_left start step device ticket old new (Err (Refused refusals.StoreFault)) logs is quiet = elim logs [ ]
quiet_left start step device ticket old new (Err (Refused refusals.Unscanned)) logs is quiet = elim logs [ ]
quiet_left start step device ticket old new (Err (Refused refusals.NotNeeded)) logs is quiet = elim logs [ ]
quiet_left start step device ticket old new (Err (Refused refusals.BlocksMissing)) logs is quiet = elim logs [ ]
quiet_left start step device ticket old new (Err (Refused refusals.CopyExists)) logs is quiet = elim logs [ ]
quiet_left start step device ticket old new (Err (Refused refusals.PullsFull)) logs is quiet = elim logs [ ]
quiet_left start step device ticket old new (Err (Refused refusals.KindForbids)) logs is quiet = elim logs [ ]
quiet_left start step device ticket old new (Err (Refused refusals.LinkDown)) logs is quiet = elim logs [ ]
quiet_left start step device ticket old new (Err (Refused refusals.LinkFull)) logs is quiet = elim logs [ ]
quiet_left start step device ticket old new (Err (Refused refusals.EpochFull)) logs is quiet = elim logs [ ]
quiet_left start step device ticket old new (Err (Refused refusals.NotBegun)) logs is quiet = elim logs [ ]
quiet_left start step device ticket old new (Err (Refused refusals.NothingToDo)) logs is quiet = elim logs [ ]
quiet_left start step device ticket old new (Err (Refused refusals.IndexIdOld)) logs is quiet = elim logs [ ]
quiet_left start step device ticket old new (Err Stale) logs is quiet = elim logs [ ]
quiet_left start step device ticket old new (Err Memory) logs is quiet = same_link_log start old new logs.1 quiet
