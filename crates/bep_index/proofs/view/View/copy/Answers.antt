use Rattle.std.proofs.Common.{sym, subst}
use Rattle.bep_index.specs.Good.{AreGood}
use Rattle.bep_index.specs.View.{IsView}
use Rattle.bep_index.proofs.view.View.copy.Goals as goal

pub invariant_of-result : goal.invariant_of-result
invariant_of-result c =
    subst (λ records. IsView (record { id = c.self.inside.id; sequence = c.self.inside.sequence; records = records }) × AreGood records) (sym c.in_ok-copy.ensures) c.self.invariant
