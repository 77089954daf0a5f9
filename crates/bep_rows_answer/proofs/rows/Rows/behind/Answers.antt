use Rattle.std.proofs.Common.{refl}
use Rattle.bep_rows_answer.proofs.rows.Rows.behind.Goals as goal

pub returns-clause-ok : goal.returns-clause-ok
returns-clause-ok g c = record { says = c.in_ok-version.ensures; no_last = refl }
