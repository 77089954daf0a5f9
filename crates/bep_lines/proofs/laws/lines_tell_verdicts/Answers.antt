use Rattle.bep_lines.proofs.Legible.{lines_tell_verdicts_lem, lines_tell_firm_verdicts_lem, refusals_are_no_verdicts_lem}
use Rattle.bep_lines.proofs.laws.lines_tell_verdicts.Goals as goal

pub returns-clause-settled : goal.returns-clause-settled
returns-clause-settled c = lines_tell_verdicts_lem

pub returns-clause-firm : goal.returns-clause-firm
returns-clause-firm c = lines_tell_firm_verdicts_lem

pub returns-clause-refused : goal.returns-clause-refused
returns-clause-refused c = refusals_are_no_verdicts_lem
