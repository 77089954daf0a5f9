use Rattle.std.proofs.Common.{◌≡◌, ◌++◌, List, drop, map}
use Rattle.bep_converge_check.specs.Hindrance.{Hinder, hinder_shown}
use Rattle.bep_converge_explain.specs.inner.Added.{AddsHinderLines}
use Rattle.bep_converge_explain.proofs.text.push_all.Given as goal

-- those whose lines are written, with those that are left, are all
abbrev pub invariant-loop-one : goal.invariant-loop-one
invariant-loop-one l = (done : List Hinder) × (done ++ map hinder_shown (drop l.one-index l.found) ≡ map hinder_shown l.found) × AddsHinderLines done l.fn.text.items l.text.items
