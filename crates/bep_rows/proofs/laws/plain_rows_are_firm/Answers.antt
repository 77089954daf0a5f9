use Rattle.bep_rows.proofs.Plain.{plain_rows_are_firm_lem}
use Rattle.bep_rows.proofs.laws.plain_rows_are_firm.Goals as goal

pub returns : goal.returns
returns c =
    plain_rows_are_firm_lem c.cut_says.ensures c.names_are_known.ensures.known c.rows_make_cuts.ensures
    (λ chooser candidates. (c.choice_exists.ensures chooser candidates).1)
