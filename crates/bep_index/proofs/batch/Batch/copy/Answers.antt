use Rattle.std.proofs.Common.{List, sym, subst, ◌∙◌}
use Rattle.bep_record.specs.declared.entry.Entry.{Entry}
use Rattle.bep_index.specs.Batch.{IsBatch}
use Rattle.bep_index.specs.Good.{AllGood}
use Rattle.bep_index.proofs.batch.Batch.copy.Goals as goal

pub made-requires : goal.made-requires
made-requires c =
    subst (λ (es : List Entry). IsBatch es × AllGood es) (c.self.view_is ∙ sym c.in_ok-to_items-in-Err.ensures.value) c.self.invariant

pub invariant_of-result : goal.invariant_of-result
invariant_of-result c = subst (λ (es : List Entry). IsBatch es × AllGood es) (sym (c.in-Ok.ensures)) c.self.invariant
