use Rattle.std.proofs.Common.{flat_map, take}
use Rattle.bep_tables.specs.Listed.{share_listed}
use Rattle.bep_tables.specs.inner.Groups.{Took}
use Rattle.bep_tables.proofs.table.listing.add_shares.Given as goal

-- the entries of the devices so far are taken
abbrev pub invariant-loop-share : goal.invariant-loop-share
invariant-loop-share l = Took (flat_map (share_listed l.folder) (take l.share-index l.shares)) l.initial.groups l.groups
