use Rattle.bep_model.proofs.Winners.{list_of_winners_is_unique, certificate_is_unique_lem, winners_are_settled_if_any}
use Rattle.bep_model.proofs.laws.certificate_is_unique.Goals as goal

pub returns-clause-one_list : goal.returns-clause-one_list
returns-clause-one_list c = list_of_winners_is_unique c.choice_is_unique.ensures

pub returns-clause-certificate : goal.returns-clause-certificate
returns-clause-certificate c = certificate_is_unique_lem c.choice_is_unique.ensures

pub returns-clause-settled_if_any : goal.returns-clause-settled_if_any
returns-clause-settled_if_any c = winners_are_settled_if_any c.choice_is_unique.ensures
