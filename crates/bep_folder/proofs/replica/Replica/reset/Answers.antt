use Rattle.bep_folder.proofs.HeldFacts.{IsHeld-begun}
use Rattle.bep_folder.proofs.replica.Replica.reset.Goals as goal

pub invariant_of-self : goal.invariant_of-self
invariant_of-self g c =
    IsHeld-begun c.self.inside.device c.self.inside.others c.new-2.result c.new-3.result c.self.invariant.sharing c.new-2.ensures c.new-3.ensures
