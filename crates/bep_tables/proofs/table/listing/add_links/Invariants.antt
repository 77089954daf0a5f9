use Rattle.std.proofs.Common.{flat_map, take}
use Rattle.bep_tables.specs.Listed.{link_listed}
use Rattle.bep_tables.specs.inner.Groups.{Took}
use Rattle.bep_tables.proofs.table.listing.add_links.Given as goal

-- the entries of the links so far are taken
abbrev pub invariant-loop-link : goal.invariant-loop-link
invariant-loop-link l = Took (flat_map link_listed (take l.link-index l.links)) l.initial.groups l.groups
