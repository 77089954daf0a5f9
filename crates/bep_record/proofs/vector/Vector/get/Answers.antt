use Rattle.std.proofs.Common.{arith}
use Rattle.bep_record.proofs.VectorFacts.{counter_of-le}
use Rattle.bep_record.proofs.vector.Vector.get.Goals as goal

pub returns-clause-bound : goal.returns-clause-bound
returns-clause-bound c =
    let e = c.counter_at.ensures in
    let le = counter_of-le c.args.self.now 0 c.args.id c.counters.ensures.well_formed in
    let same = c.counters.ensures.value in
    grind (arith, le)
