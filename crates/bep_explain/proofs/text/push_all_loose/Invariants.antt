use Rattle.std.proofs.Common.{◌≡◌, ◌++◌, List, drop, map}
use Rattle.bep_audit.specs.Loose.{Loosening, loose_shown}
use Rattle.bep_explain.specs.inner.Lines.{AddsLooseLines}
use Rattle.bep_explain.proofs.text.push_all_loose.Given as goal

-- those whose lines are written, with those that are left, are all
abbrev pub invariant-loop-one : goal.invariant-loop-one
invariant-loop-one l = (done : List Loosening) × (done ++ map loose_shown (drop l.one-index l.found) ≡ map loose_shown l.found) × AddsLooseLines done l.fn.text.items l.text.items
