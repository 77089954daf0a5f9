use Rattle.bep_fit.proofs.OneRun.{fitting_logs_are_one_run_lem}
use Rattle.bep_fit.proofs.one_run.fitting_logs_are_one_run.Goals as goal

pub returns : goal.returns
returns c =
    fitting_logs_are_one_run_lem c.own_events_replay.ensures.devices c.own_events_replay.ensures.links c.replays_are_there.ensures c.replays_run.ensures
