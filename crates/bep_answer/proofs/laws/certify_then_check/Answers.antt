use Rattle.bep_answer.proofs.UnderWinners.{check_answers_so, firm_answers_so}
use Rattle.bep_answer.proofs.laws.certify_then_check.Goals as goal

pub returns-clause-check : goal.returns-clause-check
returns-clause-check c = check_answers_so c.cuts_of_documents_have_room.ensures

pub returns-clause-firm : goal.returns-clause-firm
returns-clause-firm c = firm_answers_so c.cuts_of_documents_have_room.ensures
