use Rattle.bep_play.proofs.OneEnd.{document_is_unique, end_is_unique, run_is_unique}
use Rattle.bep_play.proofs.laws.ends_are_unique.Goals as goal

pub returns-clause-end : goal.returns-clause-end
returns-clause-end c = end_is_unique c.runs_are_determined.ensures c.same_cluster_same_cut.ensures

pub returns-clause-run : goal.returns-clause-run
returns-clause-run c = run_is_unique (returns-clause-end c) c.answers_are_unique.ensures.report_under

pub returns-clause-document : goal.returns-clause-document
returns-clause-document c = document_is_unique (returns-clause-end c) c.answers_are_unique.ensures.of_cut
