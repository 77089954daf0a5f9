use Rattle.std.proofs.Common.{List, map, sym, subst}
use Rattle.std.specs.List.{AllByRecursion}
use Rattle.bep_facts.specs.Places.{rest_at}
use Rattle.bep_links.specs.Link.{LinkBetween}
use Rattle.bep_cut.specs.Cut.{IsSoundLink, seen, link_at}
use Rattle.bep_cut.proofs.FlightFacts.{mapped_next}
use Rattle.bep_cut.proofs.links.links_cut.Goals as goal

pub loop-link-preserved : goal.loop-link-preserved
loop-link-preserved g c = record {
  made =
      mapped_next (link_at (map seen c.args.peers.now)) c.args.links.now c.loop-link.link-index c.link-item.result c.loop-link.made.items c.push.new.self.items c.in_ok-link_at.field-0
      (map (link_at (map seen c.args.peers.now)) c.args.links.now) c.loop-link-test.true c.link-item.is c.in_ok-push.ensures.items c.in_ok-link_at.ensures.link c.loop-link.invariant.made;
  sound = λ later.
      c.loop-link.invariant.sound (subst (λ (rest : List LinkBetween). AllByRecursion (IsSoundLink (map seen c.args.peers.now)) rest)
      (sym (rest_at c.args.links.now c.loop-link.link-index c.link-item.result c.loop-link-test.true c.link-item.is)) (c.in_ok-link_at.ensures.sound, later));
}
