use Rattle.std.proofs.Common.{◌≡◌, ◌++◌, map, drop}
use Rattle.bep_tables.specs.Listed.{listed}
use Rattle.bep_report.specs.inner.Known.{names_in, names_lent}
use Rattle.bep_report.proofs.known.known_in.Given as goal

-- the names so far with those of the entries from there on are those of all
abbrev pub invariant-loop-place : goal.invariant-loop-place
invariant-loop-place l = names_lent l.names.items ++ names_in l.folder (map listed (drop l.place l.table)) ≡ names_in l.folder (map listed l.table)
