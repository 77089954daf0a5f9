use Rattle.std.proofs.Common.{map, take}
use Rattle.bep_audit.specs.Walk.{failure_shown}
use Rattle.bep_gather.specs.Adding.{AddsFailing, Each}
use Rattle.bep_explain.specs.inner.Rows.{row_shown}
use Rattle.bep_explain.specs.inner.Says.{SaysHasRow}
use Rattle.bep_explain.proofs.missing.add_missing.Given as goal

-- the names of the entries so far that have no row are there
abbrev pub invariant-loop-entry : goal.invariant-loop-entry
invariant-loop-entry l = AddsFailing (Each (SaysHasRow (map row_shown l.rows)) (take l.entry-index l.entries)) (map failure_shown l.initial.found.items) (map failure_shown l.found.items)
