use Rattle.std.proofs.Common.{◌≡◌, map, take}
use Rattle.std.specs.Option.{option_copied}
use Rattle.bep_row.specs.Row.{view_with}
use Rattle.bep_row.proofs.make.views_with.Given as goal

abbrev pub invariant-loop-view : goal.invariant-loop-view
invariant-loop-view l = l.made.items ≡ map (view_with l.row (option_copied l.cell)) (take l.view-index l.views)
