use Rattle.std.proofs.Common.{rules, Contains}
use Rattle.bep_folder.proofs.HeldFacts.{IsHeld-viewed}
use Rattle.bep_folder.proofs.replica.Replica.amend_view.Goals as goal

pub invariant_of-self : goal.invariant_of-self
invariant_of-self g c =
    let shares : Contains c.self.inside.others c.args.device = search rules in
    IsHeld-viewed c.amend_in.result c.self.inside.device c.self.inside.others c.self.inside.views c.amend_in.new.views c.self.inside.pulls c.args.device _ c.amend_in.ensures.ok c.amend_in.ensures.err shares c.self.invariant
