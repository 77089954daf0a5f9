use Rattle.std.proofs.Common.{◌≤◌, ◌<◌, ◌∙◌, length, get_or, sym, ap, arith}
use Rattle.bep_core.specs.inner.Restart.{left_by}
use Rattle.bep_core.proofs.ListDone.{all_done, changed_next, whole}
use Rattle.bep_core.proofs.restarting.lose_links.Goals as goal

pub loop-link-preserved : goal.loop-link-preserved
loop-link-preserved c =
    let below : c.loop-link.link-index < length c.loop-link.link-items = let t = c.loop-link-test.true in let l = c.loop-link.auto.link-items in omega arith in
    let one = get_or c.loop-link.link-items c.loop-link.link-index c.link-item.result in
    changed_next (left_by c.args.device) c.args.links.now.items c.loop-link.link-items c.loop-link.link-index one c.leave.new.link below (ap (get_or c.loop-link.link-items c.loop-link.link-index) c.link-item.is) c.leave.ensures c.loop-link.invariant

pub returns : goal.returns
returns c =
    let past : length c.args.links.now.items ≤ c.loop-link.link-index = let t = c.loop-link-test.false in let l = c.loop-link.auto.link-items in omega arith in
    whole c.loop-link.link-items _ c.args.links.now.len (sym c.deref_mut-link-items.ensures.len ∙ sym c.loop-link.auto.link-items)
    ∙ c.loop-link.invariant
    ∙ all_done (left_by c.args.device) c.args.links.now.items c.loop-link.link-index past
