use Rattle.std.proofs.Common.{◌≤◌, ◌*◌, length, drop}
use Rattle.bep_converge_check.proofs.ProgressFacts.{Walked}
use Rattle.bep_converge_check.proofs.progress.progress_of.Given as goal

-- so many names are past, so many of them are deleted, and so many pairs are to come
abbrev pub invariant-loop-other : goal.invariant-loop-other
invariant-loop-other l = record {
  within : l.at ≤ length l.entries;
  few_names : l.names ≤ l.at;
  few_deleted : l.deleted ≤ l.at;
  few_pairs : l.to_come ≤ 16 * l.at;
  walked : Walked l.cut l.folder (drop l.at l.entries) l.names l.deleted l.to_come;
}

abbrev pub decreases-loop-other : goal.decreases-loop-other
decreases-loop-other l = length (drop l.at l.entries)
