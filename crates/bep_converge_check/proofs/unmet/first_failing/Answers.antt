use Rattle.std.proofs.Common.{◌∙◌, sym, true≢false}
use Rattle.std.specs.Ordering.{nat_cmp}
use Rattle.bep_audit.proofs.UnmetFacts.{MeetsAs, devices_in_order, meets, fails_first}
use Rattle.bep_audit.proofs.WalkFacts.{walk_starts, walk_goes_on, walk_stops, walk_ends}
use Rattle.bep_converge_check.specs.inner.Asked.{AsksOfShare}
use Rattle.bep_converge_check.proofs.unmet.first_failing.Goals as goal

pub loop-share-init : goal.loop-share-init
loop-share-init c = walk_starts nat_cmp (MeetsAs (AsksOfShare c.args.reason c.args.top.now c.args.name.now)) c.args.shares.now

pub loop-share-preserved : goal.loop-share-preserved
loop-share-preserved c =
    let Says = AsksOfShare c.args.reason c.args.top.now c.args.name.now in
    walk_goes_on nat_cmp (MeetsAs Says) c.args.shares.now c.loop-share.share-index c.share-item.result c.loop-share-test.true c.share-item.is
    (meets Says c.share-item.result (c.meets.ensures.0 c.if-not-meets.false)) c.loop-share.invariant

pub returns-then-not-meets : goal.returns-then-not-meets
returns-then-not-meets c =
    let Says = AsksOfShare c.args.reason c.args.top.now c.args.name.now in
    walk_stops nat_cmp (MeetsAs Says) c.args.shares.now c.loop-share.share-index c.share-item.result c.share-item.result.device c.loop-share-test.true c.share-item.is
    (devices_in_order Says c.args.shares.now c.requires)
    (fails_first Says c.share-item.result (λ asked. true≢false (sym (c.meets.ensures.1 asked) ∙ c.if-not-meets.true)))
    c.loop-share.invariant

pub returns : goal.returns
returns c = walk_ends nat_cmp (MeetsAs (AsksOfShare c.args.reason c.args.top.now c.args.name.now)) c.args.shares.now c.loop-share.share-index c.loop-share-test.false c.loop-share.invariant
