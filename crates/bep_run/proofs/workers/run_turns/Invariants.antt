use Rattle.std.proofs.Common.{Some}
use Rattle.bep_run.proofs.workers.run_turns.Given as goal

-- what is known: the cluster began as it was handed over, and its history's table
abbrev pub ghosts-run_from-O-Origin : goal.ghosts-run_from-O-Origin
ghosts-run_from-O-Origin g a = record { start = Some a.cluster }

abbrev pub ghosts-run_from-O-Tabled : goal.ghosts-run_from-O-Tabled
ghosts-run_from-O-Tabled g a = record { table = Some a.history.table.shared.table_id }
