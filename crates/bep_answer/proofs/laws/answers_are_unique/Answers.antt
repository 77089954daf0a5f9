use Rattle.bep_answer.proofs.OneAnswer.{audit_is_unique, cut_answer_is_unique, document_answer_is_unique, firm_audit_is_unique}
use Rattle.bep_answer.proofs.UnderWinners.{answer_under_winners_is_unique, firm_answer_under_winners_is_unique, report_under_is_unique}
use Rattle.bep_answer.proofs.laws.answers_are_unique.Goals as goal

pub returns-clause-audit : goal.returns-clause-audit
returns-clause-audit c = audit_is_unique c.verdict_is_unique.ensures

pub returns-clause-firm : goal.returns-clause-firm
returns-clause-firm c = firm_audit_is_unique c.firm_verdict_is_unique.ensures

pub returns-clause-of_cut : goal.returns-clause-of_cut
returns-clause-of_cut c = cut_answer_is_unique c.certificate_is_unique.ensures.one_list c.winners_or_first_without.ensures.not_both c.winners_or_first_without.ensures.one_first

pub returns-clause-certified : goal.returns-clause-certified
returns-clause-certified c = document_answer_is_unique c.certificate_is_unique.ensures.one_list c.winners_or_first_without.ensures.not_both c.winners_or_first_without.ensures.one_first

pub returns-clause-report_under : goal.returns-clause-report_under
returns-clause-report_under c =
    report_under_is_unique c.certificate_is_unique.ensures.one_list c.winners_or_first_without.ensures.not_both c.winners_or_first_without.ensures.one_first c.verdict_is_unique.ensures

pub returns-clause-under_winners : goal.returns-clause-under_winners
returns-clause-under_winners c =
    answer_under_winners_is_unique c.certificate_is_unique.ensures.one_list c.winners_or_first_without.ensures.not_both c.winners_or_first_without.ensures.one_first c.verdict_is_unique.ensures

pub returns-clause-firm_under_winners : goal.returns-clause-firm_under_winners
returns-clause-firm_under_winners c =
    firm_answer_under_winners_is_unique c.certificate_is_unique.ensures.one_list c.winners_or_first_without.ensures.not_both c.winners_or_first_without.ensures.one_first c.firm_verdict_is_unique.ensures
