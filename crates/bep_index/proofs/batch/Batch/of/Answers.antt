use Rattle.std.proofs.Common.{sym, subst, ◌∙◌}
use Rattle.bep_index.specs.Batch.{IsBatch}
use Rattle.bep_index.specs.Good.{AllGood}
use Rattle.bep_index.proofs.GoodFacts.{all_good}
use Rattle.bep_index.proofs.batch.Batch.of.Goals as goal

pub made-requires : goal.made-requires
made-requires c =
    (subst IsBatch (sym c.new.ensures) c.requires, subst AllGood (c.as_slice.ensures.value ∙ sym c.new.ensures) (all_good c.as_slice.result.now c.all_are_good.ensures))
