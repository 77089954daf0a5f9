use Rattle.std.proofs.Common.{IsTrue, ◌∙◌, ap, sym}
use Rattle.bep_model.specs.Settled.{content_of_node}
use Rattle.bep_machine.specs.Effects.{content_owned}
use Rattle.bep_tables.specs.declared.share.Share.{Share}
use Rattle.bep_audit.proofs.ListFacts.{each_from_first}
use Rattle.bep_converge_check.specs.inner.Asked.{AsksAllOfShare}
use Rattle.bep_converge_check.proofs.met.are_met.Goals as goal

pub are_met_beside-requires : goal.are_met_beside-requires
unfolding AsksAllOfShare
are_met_beside-requires c =
    let met = c.is_met.ensures.0 c.if-is_met.true in
    ap content_of_node c.get-holder.ensures ∙ met.2 ∙ sym (ap content_owned c.get-held.ensures)

pub returns-then-is_met : goal.returns-then-is_met
returns-then-is_met c =
    let P = λ (share : Share). AsksAllOfShare c.args.top.now c.args.name.now share in
    each_from_first P (IsTrue c.are_met_beside.result) c.args.shares.now c.first-item.result c.in-len1-up.len_at_least c.first-item.is
    (c.is_met.ensures.0 c.if-is_met.true) c.are_met_beside.ensures
