use Rattle.bep_parts.proofs.FirstVerdicts.{firm_verdict_by_parts_lem, verdict_by_parts_lem}
use Rattle.bep_parts.proofs.laws.verdict_by_parts.Goals as goal

pub returns-clause-settled : goal.returns-clause-settled
returns-clause-settled c = verdict_by_parts_lem

pub returns-clause-firm : goal.returns-clause-firm
returns-clause-firm c = firm_verdict_by_parts_lem
