-- How far the epochs of links rise in a step.
use Rattle.std.proofs.Common.{◌≡◌, ◌+◌, ◌≤◌, ◌==◌, ◌&&◌, ℕ, Bool, true, false, nat_lt, refl, sym, subst, arith, if◌then◌else◌}
use Rattle.std.proofs.lemmas.Bool.{eqb-true}
use Rattle.bep_model.specs.Tables.{Device}
use Rattle.bep_machine.specs.Answer.{Answer, Row}
use Rattle.bep_machine.specs.Cluster.{Cluster, with_link, with_peer, link_between}
use Rattle.bep_machine.specs.Link.{End, Lower, Upper, Link, Deed, Sight, lost, after_deed, end_of, after_taking, after_sending, queue_to, queue_from, with_queues}
use Rattle.bep_machine.specs.Peer.{Peer, Acted}
use Rattle.bep_machine.specs.Steps.{OverLink}

-- the epoch of each link rises by so much at most
abbrev pub EpochsRise : ℕ → Cluster → Cluster → Type 0
EpochsRise more old new = (one other : Device) → (new.link one other).epoch ≤ (old.link one other).epoch + more

pub epochs_stay : (more : ℕ) (old : Cluster) → EpochsRise more old old
epochs_stay more old one other = omega arith

-- of one link that changes
pub link_rises : (more : ℕ) (old : Cluster) (lower upper : Device) (link : Link) → link.epoch ≤ (old.link lower upper).epoch + more → EpochsRise more old (with_link old lower upper link)
link_rises more old lower upper link rises one other = by_tests (one == lower) (other == upper) refl refl
  where
    by_tests : (b c : Bool) → (one == lower) ≡ b → (other == upper) ≡ c → (if b && c then link else old.link one other).epoch ≤ (old.link one other).epoch + more
    by_tests true true first second =
        subst (λ (d : Device). link.epoch ≤ (old.link d other).epoch + more) (sym (eqb-true one lower first))
        (subst (λ (d : Device). link.epoch ≤ (old.link lower d).epoch + more) (sym (eqb-true other upper second)) rises)
    by_tests true false first second = omega arith
    by_tests false c first second = omega arith

deed_keeps_epoch : (end : End) (deed : Deed) (link : Link) → (after_deed end deed link).epoch ≡ link.epoch
deed_keeps_epoch end deed link = by_test deed.loses end
  where
    by_test : (b : Bool) (end : End) → (if b then lost link else with_queues end link (after_taking deed.takes (queue_to end link)) (after_sending deed.sends (queue_from end link))).epoch ≡ link.epoch
    by_test true end = refl
    by_test false Lower = refl
    by_test false Upper = refl

-- a step over a link
pub over_link_epochs : (more : ℕ) (device other : Device) (row : Sight → Peer → Row Acted) (old new : Cluster) (answer : Answer) → OverLink device other row old new answer → EpochsRise more old new
over_link_epochs more device other row old new answer made =
    subst (λ (c : Cluster). EpochsRise more old c) (sym made.2)
    (by_test (nat_lt device other) (after_deed (end_of device other) made.0.deed (link_between old device other)) (deed_keeps_epoch (end_of device other) made.0.deed (link_between old device other)))
  where
    by_test : (b : Bool) (link : Link) → link.epoch ≡ (if b then old.link device other else old.link other device).epoch →
        EpochsRise more old (if b then with_link (with_peer old device made.0.peer) device other link else with_link (with_peer old device made.0.peer) other device link)
    by_test true link same = link_rises more (with_peer old device made.0.peer) device other link (omega arith)
    by_test false link same = link_rises more (with_peer old device made.0.peer) other device link (omega arith)
