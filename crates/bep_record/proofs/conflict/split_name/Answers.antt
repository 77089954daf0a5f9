use Rattle.bep_record.proofs.ConflictFacts.{IsCharBoundary-stem}
use Rattle.bep_record.proofs.conflict.split_name.Goals as goal

pub split_at-requires : goal.split_at-requires
split_at-requires c = rw (c.stem_len-at.ensures.value, c.as_bytes.ensures.value) (IsCharBoundary-stem c.args.name.now)
