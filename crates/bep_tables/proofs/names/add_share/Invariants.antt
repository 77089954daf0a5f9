use Rattle.std.proofs.Common.{◌≡◌, fold, take}
use Rattle.bep_tables.specs.Names.{with_view}
use Rattle.bep_tables.proofs.names.add_share.Given as goal

-- the names are those of the views so far
abbrev pub invariant-loop-view : goal.invariant-loop-view
invariant-loop-view l = l.names ≡ fold with_view l.initial.names (take l.view-index l.view-items)
