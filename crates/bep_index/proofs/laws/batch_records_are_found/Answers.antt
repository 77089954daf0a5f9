use Rattle.bep_index.proofs.MadeFacts.{found_in_all, is_in_all, kept_in_all}
use Rattle.bep_index.proofs.RecordsFacts.{among_is_contained}
use Rattle.bep_index.proofs.laws.batch_records_are_found.Goals as goal

pub returns : goal.returns
returns c = record { found = found_in_all; batch = is_in_all; others = kept_in_all; among = among_is_contained }
