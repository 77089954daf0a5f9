use Rattle.bep_peer.specs.network.Network.{cluster_of}
use Rattle.bep_live.proofs.ReachedByThreads.{reached_by_threads}
use Rattle.bep_live.proofs.living.lived.Goals as goal

pub returns-in-Ok-clause-leads : goal.returns-in-Ok-clause-leads
returns-in-Ok-clause-leads g c =
    let known = c.in-Ok.ensures in
    let run = c.in-Ok.run' in
    let later =
    c.reached_is_gapless.ensures (cluster_of run.present)
    (reached_by_threads (cluster_of c.in_ok-cluster.cluster) run known.from c.logs.ensures.a_run_cut.nodes known.one_run c.in_ok-cluster.ensures.reached) in
    record {
      last = c.in_ok-cluster.cluster;
      leads = c.in_ok-cluster.ensures.ends;
      begins = known.begins;
      from = known.from;
      quiet = known.quiet;
      no_reset = known.no_reset;
      fit = known.fit;
      gapless = later.1;
      earlier = later.2;
    }
