use Rattle.std.proofs.Common.{◌≡◌, drop}
use Rattle.bep_scenario.specs.Configured.{with_links, MayLink}
use Rattle.bep_scenario.proofs.start.add_links.Given as goal

-- what is there with those that are left is all of them, and these may be added if all may
abbrev pub invariant-loop-link : goal.invariant-loop-link
invariant-loop-link l = record {
  value : with_links l.config (drop l.link-index l.links) ≡ with_links l.initial.config l.links;
  may : MayLink l.initial.config l.links → MayLink l.config (drop l.link-index l.links);
}
