use Rattle.std.proofs.Common.{◌≡◌, ◌++◌, drop, map}
use Rattle.std.specs.List.{AllByRecursion}
use Rattle.bep_cut.specs.Cut.{IsSoundLink, seen, link_at}
use Rattle.bep_cut.proofs.links.links_cut.Given as goal

-- the links so far with those that are left are all of them; where those are sound, all are
abbrev pub invariant-loop-link : goal.invariant-loop-link
invariant-loop-link g l = record {
  made : l.made.items ++ map (link_at (map seen l.peers)) (drop l.link-index l.links) ≡ map (link_at (map seen l.peers)) l.links;
  sound : AllByRecursion (IsSoundLink (map seen l.peers)) (drop l.link-index l.links) → AllByRecursion (IsSoundLink (map seen l.peers)) l.links;
}
