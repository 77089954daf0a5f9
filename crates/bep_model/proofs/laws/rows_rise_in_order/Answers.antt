use Rattle.bep_model.proofs.Faultless.{none_disordered, rise_from_none_disordered}
use Rattle.bep_model.proofs.laws.rows_rise_in_order.Goals as goal

pub returns : goal.returns
returns c = λ rows. (rise_from_none_disordered rows, none_disordered rows)
