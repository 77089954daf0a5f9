use Rattle.bep_index.proofs.IndexFacts.{puts_keep_an_index}
use Rattle.bep_index.proofs.laws.puts_keep_an_index.Goals as goal

pub returns : goal.returns
returns c = puts_keep_an_index
