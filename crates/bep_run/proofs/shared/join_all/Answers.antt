use Rattle.std.proofs.Common.{rules, ◌≡◌, ◌∷◌, length, Some, sym, ap, subst, ◌∙◌}
use Rattle.std.proofs.lemmas.List.{length_push, nil_from_length}
use Rattle.bep_run.specs.Origin.{at_place, links_in}
use Rattle.bep_run.proofs.Places.{AreLeft, fewer_left, next_stands, none_left}
use Rattle.bep_run.proofs.FirstSeat.{link_seated, links_left}
use Rattle.bep_run.proofs.shared.join_all.Goals as goal

pub join-requires-clause-stands : goal.join-requires-clause-stands
join-requires-clause-stands g c = λ regions alive.
    let known = links_in g.O.Origin.start in
    let all = c.loop-link.link-iterator.rest.items in
    let rest = c.next.new.self.rest.items in
    let is : all ≡ c.in-Some.link ∷ rest = c.in-Some.ensures.steps.0 in
    let at : c.len-in-loop-link.result ≡ length c.loop-link.links.items = search rules in
    subst (λ p. at_place known p c.in-Some.link ≡ Some c.in-Some.link) (sym at)
    (next_stands known (length c.loop-link.links.items) c.in-Some.link rest (subst (λ these. AreLeft known (length c.loop-link.links.items) these) is c.loop-link.invariant.left))

pub join-requires-clause-seated : goal.join-requires-clause-seated
join-requires-clause-seated g c = λ regions alive.
    let all = c.loop-link.link-iterator.rest.items in
    let rest = c.next.new.self.rest.items in
    let is : all ≡ c.in-Some.link ∷ rest = c.in-Some.ensures.steps.0 in
    link_seated g.O.Tabled.table c.in-Some.link rest all c.loop-link.seat c.split-own.result is c.loop-link.invariant.seat c.split-own.ensures.first

pub loop-link-preserved : goal.loop-link-preserved
loop-link-preserved g c =
    let known = links_in g.O.Origin.start in
    let all = c.loop-link.link-iterator.rest.items in
    let rest = c.next.new.self.rest.items in
    let is : all ≡ c.in-Some.link ∷ rest = c.in-Some.ensures.steps.0 in
    let more = ap length c.in_ok-push.ensures.items ∙ length_push c.loop-link.links.items c.in_ok-joint.joint in
    record {
      left =
          subst (λ n. AreLeft known n rest) (sym more)
          (fewer_left known (length c.loop-link.links.items) c.in-Some.link rest (subst (λ these. AreLeft known (length c.loop-link.links.items) these) is c.loop-link.invariant.left));
      seat = links_left g.O.Tabled.table c.in-Some.link rest all c.loop-link.seat c.split-own.new.self is c.loop-link.invariant.seat c.split-own.ensures.seat;
    }

pub returns : goal.returns
returns g c =
    let known = links_in g.O.Origin.start in
    let all = c.loop-link.link-iterator.rest.items in
    let none : length all ≡ 0 = search rules in
    none_left known (length c.loop-link.links.items) (subst (λ these. AreLeft known (length c.loop-link.links.items) these) (nil_from_length all none) c.loop-link.invariant.left)
