use Rattle.bep_answer.proofs.under_winners.report_under_winners.Goals as goal

pub returns : goal.returns
returns c = (_, c.in_ok-outcome.ensures)
