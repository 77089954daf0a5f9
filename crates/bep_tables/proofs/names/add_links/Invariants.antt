use Rattle.std.proofs.Common.{◌≡◌, fold, take}
use Rattle.bep_tables.specs.Names.{with_link}
use Rattle.bep_tables.proofs.names.add_links.Given as goal

-- the names are those of the links so far
abbrev pub invariant-loop-link : goal.invariant-loop-link
invariant-loop-link l = l.names ≡ fold (with_link l.folder) l.initial.names (take l.link-index l.links)
