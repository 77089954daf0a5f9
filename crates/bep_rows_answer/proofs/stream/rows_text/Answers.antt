use Rattle.bep_rows_answer.specs.UnderWinners.{TellsStanding}
use Rattle.bep_rows_answer.proofs.Asked.{answered_of_aim}
use Rattle.bep_rows_answer.proofs.stream.rows_text.Goals as goal

pub returns-clause-ok : goal.returns-clause-ok
returns-clause-ok g c = answered_of_aim TellsStanding _ _ c.of-auditor.ensures _ _ _ _ _ c.answer_rows.ensures.ok
