use Rattle.std.proofs.Common.{sym, subst}
use Rattle.bep_index.specs.Good.{AreGood}
use Rattle.bep_index.specs.View.{IsView}
use Rattle.bep_index.proofs.BatchFacts.{IsView-cleared}
use Rattle.bep_index.proofs.GoodFacts.{nothing_is_good}
use Rattle.bep_index.proofs.view.View.empty.Goals as goal

pub invariant_of-result : goal.invariant_of-result
invariant_of-result c = subst (λ records. IsView (record { id = 0; sequence = 0; records = records }) × AreGood records) (sym c.new.ensures) (IsView-cleared 0, nothing_is_good)
