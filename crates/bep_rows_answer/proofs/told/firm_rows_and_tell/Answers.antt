use Rattle.bep_rows_answer.specs.UnderWinners.{TellsStanding}
use Rattle.bep_rows_answer.proofs.Asked.{told_of_aim}
use Rattle.bep_rows_answer.proofs.Settled.{firm_rows}
use Rattle.bep_rows_answer.proofs.told.firm_rows_and_tell.Goals as goal

pub returns-clause-told : goal.returns-clause-told
returns-clause-told g c = told_of_aim TellsStanding _ _ c.of-auditor.ensures _ _ _ _ _ _ c.answer_firm_and_tell.ensures.told

pub returns-clause-firm : goal.returns-clause-firm
returns-clause-firm g c =
    firm_rows c.settled_stays_put.ensures c.settled_stays_settled.ensures c.firm_stays_firm.ensures c.firm_stays_put.ensures _ _ _ _ _ _
    (told_of_aim TellsStanding _ _ c.of-auditor.ensures _ _ _ _ _ _ c.answer_firm_and_tell.ensures.told)
