use Rattle.std.proofs.Common.{◌≡◌, List, sym, subst, ◌∙◌}
use Rattle.bep_model.specs.Tables.{Device}
use Rattle.bep_machine.specs.declared.logged.Logged.{Logged}
use Rattle.bep_machine.specs.Halves.{LinkReplays, PeerReplays}
use Rattle.bep_machine.specs.Peer.{Peer}
use Rattle.bep_peer.specs.Member.{tables_of}
use Rattle.bep_fit.specs.Logs.{events_of}
use Rattle.bep_log.proofs.laws.logs_have_one_state.Goals as goal

pub returns-clause-devices : goal.returns-clause-devices
returns-clause-devices c = λ one other base again log more mine its number tables events apart.
    sym (c.replays_are_determined.ensures.devices one.number (tables_of base) (tables_of one) (tables_of other) (events_of log) apart mine.replays
    (subst (λ (d : Device). PeerReplays d (tables_of base) (events_of log) (tables_of other)) number
    (subst (λ (p : Peer). PeerReplays other.number p (events_of log) (tables_of other)) tables
    (subst (λ (l : List Logged). PeerReplays other.number (tables_of again) l (tables_of other)) events its.replays))))

pub returns-clause-links : goal.returns-clause-links
returns-clause-links c = λ one other base log more mine its events.
    let ends : other.ends ≡ one.ends = sym its.ends ∙ mine.ends in
    let link : other.link ≡ one.link =
    sym (c.replays_are_determined.ensures.links one.ends.0 one.ends.1 base.link one.link other.link (events_of log) mine.replays
    (subst (λ (e : Device × Device). LinkReplays e.0 e.1 base.link (events_of log) other.link) ends
    (subst (λ (l : List Logged). LinkReplays other.ends.0 other.ends.1 base.link l other.link) events its.replays))) in
    λ i. record { ends = ends i; link = link i }
