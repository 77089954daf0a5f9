use Rattle.std.proofs.Common.{◌≡◌, ◌+◌, drop}
use Rattle.bep_audit.specs.inner.Walk.{count_at}
use Rattle.bep_converge_check.proofs.walk.count_of.Given as goal

-- the entries so far count, and those that are left
abbrev pub invariant-loop-entry : goal.invariant-loop-entry
invariant-loop-entry l = (l.count ≡ l.entry-index) × (count_at (l.folder, l.name) l.entries ≡ l.entry-index + count_at (l.folder, l.name) (drop l.entry-index l.entries))
