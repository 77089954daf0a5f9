use Rattle.bep_model.proofs.WithoutFacts.{winners_leave_none_out, first_without_is_unique, winners_or_first_without_lem}
use Rattle.bep_model.proofs.laws.winners_or_first_without.Goals as goal

pub returns-clause-not_both : goal.returns-clause-not_both
returns-clause-not_both c = winners_leave_none_out

pub returns-clause-one_first : goal.returns-clause-one_first
returns-clause-one_first c = first_without_is_unique

pub returns-clause-either : goal.returns-clause-either
returns-clause-either c = winners_or_first_without_lem (λ chooser candidates. (c.choice_exists.ensures chooser candidates).1)
