use Rattle.std.proofs.Common.{List, subst}
use Rattle.bep_record.specs.declared.entry.Entry.{Entry}
use Rattle.bep_index.specs.Good.{AllGood}
use Rattle.bep_index.proofs.batch.Batch.records_are_good.Goals as goal

pub returns : goal.returns
returns c = subst (λ (batch : List Entry). AllGood batch) c.self.view_is c.self.invariant.1
