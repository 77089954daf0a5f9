use Rattle.std.proofs.Common.{◌≡◌, map, take}
use Rattle.bep_row_document.specs.Reading.{view_with}
use Rattle.bep_row_document.proofs.making.views_with.Given as goal

abbrev pub invariant-loop-view : goal.invariant-loop-view
invariant-loop-view l = l.made.items ≡ map view_with (take l.view-index l.views)
