use Rattle.bep_record.proofs.MergeFacts.{bump_exists, bump_is_unique, bump_is_counted}
use Rattle.bep_record.proofs.laws.bump_exists.Goals as goal

pub returns : goal.returns
returns c = record { exists = bump_exists; unique = bump_is_unique; counted = bump_is_counted }
