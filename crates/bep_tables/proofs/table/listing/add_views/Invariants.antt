use Rattle.std.proofs.Common.{flat_map, take}
use Rattle.bep_tables.specs.Listed.{view_listed}
use Rattle.bep_tables.specs.inner.Groups.{Took}
use Rattle.bep_tables.proofs.table.listing.add_views.Given as goal

-- the entries of the views so far are taken
abbrev pub invariant-loop-view : goal.invariant-loop-view
invariant-loop-view l = Took (flat_map (view_listed l.folder l.device) (take l.view-index l.views)) l.initial.groups l.groups
