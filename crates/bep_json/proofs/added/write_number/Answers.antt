use Rattle.std.proofs.Common.{arith}
use Rattle.bep_json.proofs.AddedFacts.{number_added}
use Rattle.bep_json.proofs.added.write_number.Goals as goal

pub returns : goal.returns
returns c = number_added c.args.number (omega arith) c.in_ok-u64.ensures
