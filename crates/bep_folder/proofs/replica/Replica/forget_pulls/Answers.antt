use Rattle.bep_folder.proofs.HeldFacts.{IsHeld-unpulled}
use Rattle.bep_folder.proofs.replica.Replica.forget_pulls.Goals as goal

pub invariant_of-self : goal.invariant_of-self
invariant_of-self g c =
    IsHeld-unpulled c.self.inside.device c.self.inside.others c.self.inside.views c.self.inside.pulls c.new.result c.new.ensures c.self.invariant
