use Rattle.std.proofs.Common.{sym, subst}
use Rattle.bep_folder.specs.Held.{IsHeld}
use Rattle.bep_folder.proofs.HeldFacts.{IsHeld-forgotten}
use Rattle.bep_folder.proofs.replica.Replica.drop_pull.Goals as goal

pub invariant_of-self : goal.invariant_of-self
invariant_of-self g c =
    subst (λ pulls. IsHeld c.self.inside.device c.self.inside.others c.self.inside.views pulls) (sym c.forget.ensures)
    (IsHeld-forgotten c.self.inside.device c.self.inside.others c.self.inside.views c.self.inside.pulls c.args.name.now c.self.invariant)
