use Rattle.std.proofs.Common.{◌≤◌, ◌<◌, ◌∙◌, length, get_or, ap, arith}
use Rattle.bep_run_check.proofs.WalkLists.{all_moved, moved_next}
use Rattle.bep_run_check.proofs.walk.pass.Goals as goal

pub loop-one-preserved : goal.loop-one-preserved
loop-one-preserved c =
    let below : c.loop-one.one-index < length c.loop-one.walk = let t = c.loop-one-test.true in let l = c.loop-one.auto.walk in omega arith in
    let one = get_or c.loop-one.walk c.loop-one.one-index c.one-item.result in
    moved_next c.args.ticket c.args.walk.now c.loop-one.walk c.loop-one.one-index one c.pass.new.self below (ap (get_or c.loop-one.walk c.loop-one.one-index) c.one-item.is) c.pass.ensures c.loop-one.invariant

pub returns-clause-past : goal.returns-clause-past
returns-clause-past c =
    let past : length c.args.walk.now ≤ c.loop-one.one-index = let t = c.loop-one-test.false in let l = c.loop-one.auto.walk in omega arith in
    c.loop-one.invariant ∙ all_moved c.args.ticket c.args.walk.now c.loop-one.one-index past
