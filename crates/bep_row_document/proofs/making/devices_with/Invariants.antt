use Rattle.std.proofs.Common.{◌≡◌, map, take}
use Rattle.bep_row_document.specs.Reading.{device_with}
use Rattle.bep_row_document.proofs.making.devices_with.Given as goal

abbrev pub invariant-loop-cell : goal.invariant-loop-cell
invariant-loop-cell l = l.made.items ≡ map (device_with l.nodes) (take l.cell-index l.cells)
