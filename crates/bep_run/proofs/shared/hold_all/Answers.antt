use Rattle.std.proofs.Common.{rules, ◌≡◌, ◌++◌, List, ◌∷◌, map, length, Some, sym, ap, subst, ◌∙◌}
use Rattle.std.proofs.lemmas.List.{length_push, nil_from_length}
use Rattle.bep_cut.specs.Cut.{seen}
use Rattle.bep_peer.specs.Member.{Member}
use Rattle.bep_run.specs.inner.Kept.{IsFirstSeat, objects_of_links, objects_of_peers}
use Rattle.bep_run.specs.Origin.{at_place, devices_in}
use Rattle.bep_run.proofs.Places.{AreLeft}
use Rattle.bep_run.proofs.Begins.{fewer_seen, next_seen, none_seen}
use Rattle.bep_run.proofs.FirstSeat.{device_seated, devices_left}
use Rattle.bep_run.proofs.shared.hold_all.Goals as goal

pub hold-requires-clause-stands : goal.hold-requires-clause-stands
hold-requires-clause-stands g c = λ regions alive.
    let known = devices_in g.O.Origin.start in
    let all = c.loop-peer.peer-iterator.rest.items in
    let rest = c.next.new.self.rest.items in
    let is : all ≡ c.in-Some.peer ∷ rest = c.in-Some.ensures.steps.0 in
    let at : c.len-in-loop-peer.result ≡ length c.loop-peer.devices.items = search rules in
    subst (λ p. at_place known p (seen c.in-Some.peer) ≡ Some (seen c.in-Some.peer)) (sym at)
    (next_seen known (length c.loop-peer.devices.items) c.in-Some.peer rest all is c.loop-peer.invariant.left)

pub hold-requires-clause-seated : goal.hold-requires-clause-seated
hold-requires-clause-seated g c = λ regions alive.
    let all = c.loop-peer.peer-iterator.rest.items in
    let rest = c.next.new.self.rest.items in
    let is : all ≡ c.in-Some.peer ∷ rest = c.in-Some.ensures.steps.0 in
    device_seated g.O.Tabled.table c.in-Some.peer rest all c.args.joining.now c.loop-peer.seat c.split-own.result is c.loop-peer.invariant.seat c.split-own.ensures.first

pub loop-peer-preserved : goal.loop-peer-preserved
loop-peer-preserved g c =
    let known = devices_in g.O.Origin.start in
    let all = c.loop-peer.peer-iterator.rest.items in
    let rest = c.next.new.self.rest.items in
    let is : all ≡ c.in-Some.peer ∷ rest = c.in-Some.ensures.steps.0 in
    let more = ap length c.in_ok-push.ensures.items ∙ length_push c.loop-peer.devices.items c.in_ok-held.held in
    record {
      left =
          subst (λ n. AreLeft known n (map seen rest)) (sym more)
          (fewer_seen known (length c.loop-peer.devices.items) c.in-Some.peer rest all is c.loop-peer.invariant.left);
      seat = devices_left g.O.Tabled.table c.in-Some.peer rest all c.args.joining.now c.loop-peer.seat c.split-own.new.self is c.loop-peer.invariant.seat c.split-own.ensures.seat;
    }

pub returns : goal.returns
returns g c =
    let known = devices_in g.O.Origin.start in
    let all = c.loop-peer.peer-iterator.rest.items in
    let none : length all ≡ 0 = search rules in
    let is = nil_from_length all none in
    record {
      all = none_seen known (length c.loop-peer.devices.items) all is c.loop-peer.invariant.left;
      seat =
          subst (λ (these : List Member). IsFirstSeat g.O.Tabled.table (objects_of_peers these ++ objects_of_links c.args.joining.now) c.loop-peer.seat) is c.loop-peer.invariant.seat;
      only = tt;
    }
