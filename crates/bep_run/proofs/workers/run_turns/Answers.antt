use Rattle.bep_peer.specs.network.Network.{cluster_of}
use Rattle.bep_run.proofs.Begins.{same_cluster_of}
use Rattle.bep_run.proofs.Handed.{one_run_of}
use Rattle.bep_run.proofs.Settling.{settled_of}
use Rattle.bep_run.proofs.workers.run_turns.Goals as goal

pub returns-clause-settled : goal.returns-clause-settled
returns-clause-settled g c =
    let run = c.in_ok-run.run' in
    let known = c.in_ok-run.ensures in
    let cut = c.logs.ensures.a_run_cut in
    settled_of c.settled_stays_put.ensures c.settled_stays_settled.ensures (cluster_of c.args.cluster) run (same_cluster_of run.bases c.args.cluster known.begins) cut known.quiet known.no_reset
    (one_run_of c.fitting_logs_are_one_run.ensures run cut known.fit)
