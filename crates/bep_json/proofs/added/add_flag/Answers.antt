use Rattle.bep_json.proofs.AddedFacts.{keyed}
use Rattle.bep_json.proofs.added.add_flag.Goals as goal

pub returns : goal.returns
returns c = keyed c.in_ok-key.ensures c.in_ok-write_flag.ensures
