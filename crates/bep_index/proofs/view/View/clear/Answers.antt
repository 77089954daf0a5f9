use Rattle.std.proofs.Common.{sym, subst}
use Rattle.bep_index.specs.Good.{AreGood}
use Rattle.bep_index.specs.View.{IsView}
use Rattle.bep_index.proofs.BatchFacts.{IsView-cleared}
use Rattle.bep_index.proofs.GoodFacts.{nothing_is_good}
use Rattle.bep_index.proofs.view.View.clear.Goals as goal

pub invariant_of-self : goal.invariant_of-self
invariant_of-self c = subst (λ records. IsView (record { id = c.args.id; sequence = 0; records = records }) × AreGood records) (sym c.new.ensures) (IsView-cleared c.args.id, nothing_is_good)
