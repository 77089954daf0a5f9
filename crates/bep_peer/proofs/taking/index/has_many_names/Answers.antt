use Rattle.std.proofs.Common.{length, arith, ap}
use borrow.Author.Tests.{ltb-true}
use Rattle.bep_peer.proofs.ViewTaken.{few_of_batch}
use Rattle.bep_peer.proofs.taking.index.has_many_names.Goals as goal

pub returns : goal.returns
returns c =
    let few = c.as_slice.ensures.a_batch.few in
    let same = ap length c.as_slice.ensures.value in
    let names = few_of_batch c.args.batch.now c.as_slice.ensures.a_batch in
    (λ many. absurd (let more = ltb-true 4096 (length c.as_slice.result.now) many in omega arith), λ many. absurd (omega arith))
