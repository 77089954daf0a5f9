use Rattle.std.proofs.Common.{rules, Contains}
use Rattle.bep_folder.proofs.HeldFacts.{IsHeld-viewed}
use Rattle.bep_folder.proofs.replica.Replica.replace_view.Goals as goal

pub invariant_of-self : goal.invariant_of-self
invariant_of-self g c =
    let shares : Contains c.self.inside.others c.args.device = search rules in
    IsHeld-viewed c.replace_in.result c.self.inside.device c.self.inside.others c.self.inside.views c.replace_in.new.views c.self.inside.pulls c.args.device _ c.replace_in.ensures.ok c.replace_in.ensures.err shares c.self.invariant
