use Rattle.std.proofs.Common.{List, sym, subst}
use Rattle.std.specs.FinMap.{empty}
use Rattle.bep_record.specs.declared.entry.Entry.{Entry}
use Rattle.bep_index.specs.Batch.{with_all}
use Rattle.bep_index.specs.Good.{AreGood}
use Rattle.bep_index.specs.Index.{IsIndex}
use Rattle.bep_index.specs.Order.{AreInOrder}
use Rattle.bep_index.proofs.GoodFacts.{nothing_is_good}
use Rattle.bep_index.proofs.IndexFacts.{IsIndex-empty}
use Rattle.bep_index.proofs.index.Index.new.Goals as goal

pub invariant_of-result : goal.invariant_of-result
invariant_of-result c =
    subst (λ (es : List Entry). IsIndex (record { id = c.args.id; sequence = 0; records = with_all empty es }) × AreInOrder es × AreGood (with_all empty es)) (sym c.new.ensures)
    (IsIndex-empty c.args.id, record { rises = tt; names = tt }, nothing_is_good)
