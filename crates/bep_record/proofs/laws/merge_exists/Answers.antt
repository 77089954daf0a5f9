use Rattle.bep_record.proofs.MergeFacts.{merge_exists, merge_is_unique, merge_is_counted}
use Rattle.bep_record.proofs.laws.merge_exists.Goals as goal

pub returns : goal.returns
returns c = record { exists = merge_exists; unique = merge_is_unique; counted = merge_is_counted }
