use Rattle.bep_parts.proofs.Merged.{merged_is_firm_lem, merged_is_settled_lem}
use Rattle.bep_parts.proofs.laws.merged_is_settled.Goals as goal

pub returns-clause-settled : goal.returns-clause-settled
returns-clause-settled c = merged_is_settled_lem c.choice_is_unique.ensures

pub returns-clause-firm : goal.returns-clause-firm
returns-clause-firm c = merged_is_firm_lem c.choice_is_unique.ensures
