use Rattle.std.proofs.Common.{arith}
use Rattle.bep_blocks.proofs.PlainFacts.{IfOk-plain}
use Rattle.bep_blocks.proofs.plain.cut.Goals as goal

pub returns : goal.returns
returns c = IfOk-plain c.cut_run.result (λ list. list.items) c.args.size c.bytes_of-block_size.result _ c.args.bytes.now c.bytes_of-block_size.ensures.value (omega arith) c.cut_run.ensures
