use Rattle.bep_machine.proofs.GapRun.{runs_are_gapless_lem, fresh_is_apart}
use Rattle.bep_machine.proofs.gapless.runs_are_gapless.Goals as goal

pub returns-clause-runs : goal.returns-clause-runs
returns-clause-runs c =
    runs_are_gapless_lem c.steps_keep_sound.ensures c.batch_records_are_found.ensures.found c.batch_records_are_found.ensures.batch c.batch_records_are_found.ensures.others

pub returns-clause-fresh : goal.returns-clause-fresh
returns-clause-fresh c = fresh_is_apart
