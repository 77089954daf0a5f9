use Rattle.std.proofs.Common.{◌≡◌, fold, take}
use Rattle.std.specs.FinMap.{empty}
use Rattle.bep_tables.specs.Names.{with_share}
use Rattle.bep_tables.proofs.cut.Cut.known_names.Given as goal

-- the names are those of the shares so far
abbrev pub invariant-loop-share : goal.invariant-loop-share
invariant-loop-share l = l.names ≡ fold with_share empty (take l.share-index l.share-items)
