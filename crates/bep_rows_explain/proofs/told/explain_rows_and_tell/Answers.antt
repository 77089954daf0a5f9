use Rattle.bep_rows_answer.proofs.Asked.{told_of_aim}
use Rattle.bep_rows_answer.proofs.Settled.{settled_rows}
use Rattle.bep_rows_explain.specs.Explained.{ExplainsRow}
use Rattle.bep_rows_explain.proofs.told.explain_rows_and_tell.Goals as goal

pub returns-clause-told : goal.returns-clause-told
returns-clause-told g c = told_of_aim ExplainsRow _ _ c.of-auditor.ensures _ _ _ _ _ _ c.answer_and_tell.ensures.told

pub returns-clause-settled : goal.returns-clause-settled
returns-clause-settled g c =
    settled_rows c.settled_stays_put.ensures c.settled_stays_settled.ensures _ _ _ _ _ _
    (told_of_aim ExplainsRow _ _ c.of-auditor.ensures _ _ _ _ _ _ c.answer_and_tell.ensures.told)
