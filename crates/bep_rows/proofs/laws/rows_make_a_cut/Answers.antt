use Rattle.bep_rows.proofs.AllRows.{names_are_of_rows_lem, no_other_names_lem, rows_are_of_their_cut_lem}
use Rattle.bep_rows.proofs.laws.rows_make_a_cut.Goals as goal

pub returns-clause-rows : goal.returns-clause-rows
returns-clause-rows c = rows_are_of_their_cut_lem

pub returns-clause-others : goal.returns-clause-others
returns-clause-others c = no_other_names_lem

pub returns-clause-names : goal.returns-clause-names
returns-clause-names c = names_are_of_rows_lem c.documents_say_only.ensures
