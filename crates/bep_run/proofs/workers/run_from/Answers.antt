use Rattle.bep_run.proofs.Handed.{about_these}
use Rattle.bep_run.proofs.workers.run_from.Goals as goal

pub of-requires-2-clause-about : goal.of-requires-2-clause-about
of-requires-2-clause-about g c regions alive = about_these g.O.Origin.start c.args.cluster c.args.history.table.shared.key.items c.requires.start c.requires.about
