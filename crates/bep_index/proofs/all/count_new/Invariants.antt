use Rattle.std.proofs.Common.{◌≡◌, ◌≤◌, ◌+◌, drop}
use Rattle.bep_index.specs.inner.Count.{new_names}
use Rattle.bep_index.proofs.all.count_new.Given as goal

abbrev pub invariant-loop-entry : goal.invariant-loop-entry
invariant-loop-entry l =
    (l.count + new_names l.map (drop l.entry-index l.records) ≡ new_names l.map l.records) × (l.count ≤ l.entry-index)
