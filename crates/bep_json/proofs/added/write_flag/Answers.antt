use Rattle.bep_json.proofs.AddedFacts.{flag_added}
use Rattle.bep_json.proofs.added.write_flag.Goals as goal

pub returns : goal.returns
returns c = flag_added c.args.flag c.in_ok-boolean.ensures
