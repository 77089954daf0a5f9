use Rattle.std.proofs.Common.{IsTrue, map}
use Rattle.bep_tables.specs.declared.share.Share.{Share}
use Rattle.bep_tables.specs.Listed.{listed}
use Rattle.bep_audit.specs.inner.Faultless.{AsksAll, AsksAllHere}
use Rattle.bep_audit.proofs.ListFacts.{each_from_first}
use Rattle.bep_audit.proofs.FaultlessRow.{holds_as_lent}
use Rattle.bep_audit.proofs.faultless.are_met.Goals as goal

pub are_met_beside-requires : goal.are_met_beside-requires
unfolding AsksAll AsksAllHere
are_met_beside-requires c =
    let met = c.is_met.ensures.0 c.if-is_met.true in
    holds_as_lent c.node_among.result _ _ c.node_among.ensures met.0.3

pub returns-then-is_met : goal.returns-then-is_met
returns-then-is_met c =
    let P = λ (share : Share). AsksAll c.args.row.now (map listed c.args.group.now) share.device in
    each_from_first P (IsTrue c.are_met_beside.result) c.args.shares.now c.first-item.result c.in-len1-up.len_at_least c.first-item.is
    (c.is_met.ensures.0 c.if-is_met.true) c.are_met_beside.ensures
