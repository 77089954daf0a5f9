use Rattle.bep_index.proofs.MadeFacts.{records_make_an_index, records_are_found}
use Rattle.bep_index.proofs.laws.records_make_an_index.Goals as goal

pub returns : goal.returns
returns c = record { index = records_make_an_index; found = records_are_found }
