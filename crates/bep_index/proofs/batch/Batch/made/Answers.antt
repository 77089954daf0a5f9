use Rattle.std.proofs.Common.{List, sym, subst}
use Rattle.bep_record.specs.declared.entry.Entry.{Entry}
use Rattle.bep_index.specs.Batch.{IsBatch}
use Rattle.bep_index.specs.Good.{AllGood}
use Rattle.bep_index.proofs.batch.Batch.made.Goals as goal

pub invariant_of-result : goal.invariant_of-result
invariant_of-result c = subst (λ (es : List Entry). IsBatch es × AllGood es) (sym c.in_ok-new.ensures.ok) c.requires
