-- What an action in a folder leaves under a ticket, from what its parts answered.
use Rattle.std.proofs.Common.{◌≡◌, ℕ, List, Option, Result, Ok, Err, inr, refl, sym, ap, subst, ◌∙◌}
use Rattle.bep_model.specs.Tables.{Device, Folder}
use Rattle.bep_machine.specs.declared.logged.Logged.{Logged}
use Rattle.bep_machine.specs.declared.moved.Moved.{Moved}
use Rattle.bep_machine.specs.declared.step.Step.{Step}
use Rattle.bep_peer.specs.declared.error.PeerError.{PeerError}
use Rattle.bep_peer.specs.declared.error.PeerError.TheVariants as peer
use Rattle.bep_peer.specs.declared.trace.Trace.{Trace}
use Rattle.bep_peer.specs.Member.{Member, Remains, untold}
use Rattle.bep_log.specs.declared.error.LogError.{LogError}
use Rattle.bep_log.specs.declared.local.Local.{Local}
use Rattle.bep_fit.specs.declared.stamped.Stamped.{Stamped}
use Rattle.bep_log.specs.Acts.{ActsIn, LogsIn, MayGain}
use Rattle.bep_log.specs.Event.{event_told}
use Rattle.bep_log.specs.History.{History, MayLog, last_with, with_events}
use Rattle.bep_log.specs.inner.Local.{KeepsUncopied, copies, does_of, step_of}
use Rattle.bep_log.specs.LogError.{answer_of}
use Rattle.bep_log.specs.LoggedPeer.{IsReplayed, LoggedMember}
use Rattle.bep_log.specs.Ticket.{UnderTicket}
use Rattle.bep_log.proofs.ActFacts.{acts_replayed, kept_of}
use Rattle.bep_log.proofs.LocalFacts.{AreTold}

-- what the device answered, as an answer under a ticket
under_ticket : {A : Type 0} (ticket : ℕ) (log : List Stamped) (last : ℕ) (same : Type 0) (acts : Result A PeerError → Type 0) → MayLog ticket log last → (answer : Result A PeerError) → acts answer → UnderTicket ticket log last same acts (answer_of answer)
under_ticket ticket log last same acts may (Ok done) made = (may, made)
under_ticket ticket log last same acts may (Err (peer.Refused refusal)) made = (may, made)
under_ticket ticket log last same acts may (Err peer.Stale) made = (may, made)
under_ticket ticket log last same acts may (Err peer.Memory) made = (may, inr made)

-- The device was in `was`; the action left it as `left`, and its trace was taken. The log had `before` in it, then `after`.
module _ (told : AreTold) (action : Local) (folder : Folder) (ticket : ℕ) (was : LoggedMember) (left taken : Member) (before after : History) (answer : Result Moved PeerError) (trace : Trace) (number : Device) (step : Step) (event : Option Logged)
    (silent : taken ≡ untold left) (traced : trace ≡ left.trace) (numbered : number ≡ was.now.number) (stepped : step ≡ step_of action number folder) (evented : event ≡ event_told step answer trace)
    (opened : before ≡ record { log = was.log; round = was.round; last = was.last; room = before.room }) (logged : after.log ≡ with_events before.log ticket event)
    (rest : Remains was.now left) (made : does_of action was.now.number folder was.now left answer) (copied : MayGain (copies action) folder was.now left) (kept : KeepsUncopied action was.now left answer) where
  -- the event is the action's
  right : event ≡ event_told (step_of action was.now.number folder) answer left.trace
  right =
      evented ∙ ap (λ (s : Step). event_told s answer trace) (stepped ∙ ap (λ (d : Device). step_of action d folder) numbered)
      ∙ ap (λ (t : Trace). event_told (step_of action was.now.number folder) answer t) traced

  in_log : after.log ≡ with_events was.log ticket (event_told (step_of action was.now.number folder) answer left.trace)
  in_log =
      logged ∙ ap (λ (h : History). with_events h.log ticket event) opened
      ∙ ap (λ (e : Option Logged). with_events was.log ticket e) right

  pub act_replayed : IsReplayed was.now was.base was.log → IsReplayed taken was.base after.log
  act_replayed replayed =
      subst (λ (m : Member). IsReplayed m was.base after.log) (sym silent)
      (subst (λ (l : List Stamped). IsReplayed (untold left) was.base l) (sym in_log) (acts_replayed told folder was.now left action answer was.base was.log ticket replayed rest made copied kept))

  pub act_logs : after.round ≡ before.round → after.last ≡ last_with before.last ticket event → MayLog ticket was.log was.last → (result : Result Moved LogError) → result ≡ answer_of answer →
      LogsIn (copies action) folder (does_of action was.now.number folder) (step_of action was.now.number folder) ticket was (record { now = taken; base = was.base; log = after.log; round = after.round; last = after.last }) result
  act_logs rounds lasts may result is =
      let new : LoggedMember = record { now = taken; base = was.base; log = after.log; round = after.round; last = after.last } in
      subst (UnderTicket ticket was.log was.last (new ≡ was) (ActsIn (copies action) folder (does_of action was.now.number folder) (step_of action was.now.number folder) ticket was new)) (sym is)
      (under_ticket ticket was.log was.last (new ≡ was) (ActsIn (copies action) folder (does_of action was.now.number folder) (step_of action was.now.number folder) ticket was new) may answer
      (record {
        left = left;
        now = silent;
        made = made;
        rest = rest;
        copied = copied;
        kept = kept_of told folder was.now left action answer made kept;
        told = record {
          base = refl;
          round = rounds ∙ ap (λ (h : History). h.round) opened;
          log = in_log;
          last = lasts ∙ ap (λ (h : History). last_with h.last ticket event) opened ∙ ap (last_with was.last ticket) right;
        };
      }))
