use Rattle.std.proofs.Common.{◌≡◌, map, take}
use Rattle.bep_tables.specs.declared.share.Share.{Share}
use Rattle.bep_row.specs.Row.{cell_in, share_with}
use Rattle.bep_row.proofs.make.folder_with.Given as goal

abbrev pub invariant-loop-share : goal.invariant-loop-share
invariant-loop-share l = l.shares.items ≡ map (λ (share : Share). share_with l.row (cell_in l.row l.shared share.device) share) (take l.share-index l.share-items)
