use Rattle.std.proofs.Common.{rules, Contains}
use Rattle.bep_folder.proofs.HeldFacts.{IsHeld-viewed, IsHeld-unviewed}
use Rattle.bep_folder.proofs.replica.Replica.exchange_view.Goals as goal

pub invariant_of-self : goal.invariant_of-self
invariant_of-self g c =
    let shares : Contains c.self.inside.others c.args.device = search rules in
    IsHeld-viewed c.put_view.result c.self.inside.device c.self.inside.others c.self.inside.views c.put_view.new.views c.self.inside.pulls c.args.device _ c.put_view.ensures.ok c.put_view.ensures.err shares c.self.invariant

pub invariant_of-self-in-None : goal.invariant_of-self-in-None
invariant_of-self-in-None g c =
    IsHeld-unviewed c.self.inside.device c.self.inside.others c.self.inside.views c.remove.new.self c.self.inside.pulls c.args.device c.remove.ensures.removed c.self.invariant
