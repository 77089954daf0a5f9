use Rattle.std.proofs.Common.{rules, subst, sym, ◌∙◌, IsTrue}
use Rattle.bep_folder.specs.Held.{AreOthers}
use Rattle.bep_folder.proofs.HeldFacts.{IsHeld-begun}
use Rattle.bep_folder.proofs.replica.Replica.new.Goals as goal

pub invariant_of-result : goal.invariant_of-result
invariant_of-result g c =
    let tested : IsTrue c.are_others.result = search rules in
    let sharing : AreOthers c.args.device c.as_slice.result.now = c.are_others.ensures.0 tested in
    IsHeld-begun c.args.device c.new.result c.new-3.result c.new-4.result
    (subst (AreOthers c.args.device) (c.as_slice.ensures.value ∙ sym c.new.ensures) sharing)
    c.new-3.ensures c.new-4.ensures
