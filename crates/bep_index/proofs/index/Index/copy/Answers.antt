use Rattle.std.proofs.Common.{List, sym, subst}
use Rattle.std.specs.FinMap.{empty}
use Rattle.bep_record.specs.declared.entry.Entry.{Entry}
use Rattle.bep_index.specs.Batch.{with_all}
use Rattle.bep_index.specs.Good.{AreGood}
use Rattle.bep_index.specs.Index.{IsIndex}
use Rattle.bep_index.specs.Order.{AreInOrder}
use Rattle.bep_index.proofs.index.Index.copy.Goals as goal

pub invariant_of-result : goal.invariant_of-result
invariant_of-result c =
    subst
    (λ (es : List Entry).
    IsIndex (record { id = c.self.inside.id; sequence = c.self.inside.sequence; records = with_all empty es }) × AreInOrder es × AreGood (with_all empty es))
    (sym c.in_ok-copy.ensures) c.self.invariant
