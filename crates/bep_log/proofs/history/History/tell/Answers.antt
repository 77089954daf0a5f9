use Rattle.std.proofs.Common.{◌<◌, ◌≤◌, ℕ, List, length, ap, subst, sym, arith}
use Rattle.std.proofs.lemmas.List.{length_push}
use Rattle.bep_fit.specs.declared.stamped.Stamped.{Stamped}
use Rattle.bep_log.specs.declared.limits.TheConstants.{MAX_EVENTS}
use Rattle.bep_log.specs.History.{History, RiseTo}
use Rattle.bep_log.proofs.LogFacts.{rise_on}
use Rattle.bep_log.proofs.history.History.tell.Goals as goal

pub invariant_of-self : goal.invariant_of-self
invariant_of-self c =
    let log = c.self.inside.log.items in
    let above : c.self.inside.last < c.args.ticket = subst (λ (last : ℕ). last < c.args.ticket) (sym (ap (λ (h : History). h.last) c.self.view_is)) c.requires.open.above in
    let few : length log < MAX_EVENTS = subst (λ (l : List Stamped). length l < MAX_EVENTS) (sym (ap (λ (h : History). h.log) c.self.view_is)) c.requires.open.few in
    let more = length_push log (record { ticket = c.args.ticket; event = c.args.event }) in
    record {
      rise = subst (λ (l : List Stamped). RiseTo 0 l c.args.ticket) (sym c.in-Ok.ensures.items) (rise_on 0 log c.self.inside.last c.args.ticket c.args.event c.self.invariant.rise above);
      few = subst (λ (l : List Stamped). length l ≤ MAX_EVENTS) (sym c.in-Ok.ensures.items) (omega (arith, more, few));
    }
