use Rattle.std.proofs.Common.{◌≡◌, ◌++◌, List, drop, map}
use Rattle.bep_audit.specs.Walk.{Failure, failure_shown}
use Rattle.bep_explain.specs.inner.Lines.{AddsLines}
use Rattle.bep_explain.proofs.text.push_all.Given as goal

-- those whose lines are written, with those that are left, are all
abbrev pub invariant-loop-one : goal.invariant-loop-one
invariant-loop-one l = (done : List Failure) × (done ++ map failure_shown (drop l.one-index l.found) ≡ map failure_shown l.found) × AddsLines done l.fn.text.items l.text.items
