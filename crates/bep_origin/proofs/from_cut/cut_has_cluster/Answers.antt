use Rattle.bep_origin.proofs.from_cut.cut_has_cluster.Goals as goal

pub returns : goal.returns
returns c = c.cuts_have_clusters.ensures c.args.cut.now c.is_a_cut.ensures c.cut_is_good.ensures
