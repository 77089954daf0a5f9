use Rattle.std.proofs.Common.{sym, ◌∙◌, arith}
use Rattle.bep_index.proofs.AfterFacts.{count_le}
use Rattle.bep_index.proofs.PlaceFacts.{counted, not_counted}
use Rattle.bep_index.proofs.records.Records.place_above.Goals as goal

pub loop-low-init : goal.loop-low-init
loop-low-init c =
    let most = count_le c.args.sequence c.args.self.now in
    let many = c.len-high.ensures.value in
    (omega arith, omega arith, omega arith)

pub loop-low-preserved-then-is_up_to : goal.loop-low-preserved-then-is_up_to
loop-low-preserved-then-is_up_to c =
    (counted c.args.sequence 0 _ c.args.self.now c.len-high.ensures.in_order.rises (sym c.is_up_to.ensures ∙ c.if-is_up_to.true), c.loop-low.invariant.1, c.loop-low.invariant.2)

pub loop-low-preserved : goal.loop-low-preserved
loop-low-preserved c =
    let below = c.loop-low-test.true in
    let within = c.loop-low.invariant.2 in
    (c.loop-low.invariant.0, not_counted c.args.sequence 0 _ c.args.self.now c.len-high.ensures.in_order.rises (sym c.is_up_to.ensures ∙ c.if-is_up_to.false), omega arith)
