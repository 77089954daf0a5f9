use Rattle.std.proofs.Common.{◌≡◌, ◌++◌}
use Rattle.bep_scenario.proofs.fresh.links.links_of.Given as goal

-- the links so far with those that are left are all of them
abbrev pub invariant-loop-link : goal.invariant-loop-link
invariant-loop-link l = l.links.items ++ l.link-iterator.rest.items ≡ l.fn.fresh
