use Rattle.std.proofs.Common.{map, ◌∙◌, sym, true≢false}
use Rattle.std.specs.Ordering.{nat_cmp}
use Rattle.bep_tables.specs.Listed.{listed}
use Rattle.bep_audit.specs.Group.{AsksGroup}
use Rattle.bep_audit.proofs.UnmetFacts.{MeetsAs, devices_in_order, meets, fails_first}
use Rattle.bep_audit.proofs.WalkFacts.{walk_starts, walk_goes_on, walk_stops, walk_ends}
use Rattle.bep_audit.proofs.group_row.first_unmet_in.Goals as goal

pub loop-share-init : goal.loop-share-init
loop-share-init c = walk_starts nat_cmp (MeetsAs (AsksGroup c.args.reason c.args.row.now (map listed c.args.group.now))) c.args.shares.now

pub loop-share-preserved : goal.loop-share-preserved
loop-share-preserved c =
    let Says = AsksGroup c.args.reason c.args.row.now (map listed c.args.group.now) in
    walk_goes_on nat_cmp (MeetsAs Says) c.args.shares.now c.loop-share.share-index c.share-item.result c.loop-share-test.true c.share-item.is
    (meets Says c.share-item.result (c.meets_group.ensures.0 c.if-not-meets_group.false)) c.loop-share.invariant

pub returns-then-not-meets_group : goal.returns-then-not-meets_group
returns-then-not-meets_group c =
    let Says = AsksGroup c.args.reason c.args.row.now (map listed c.args.group.now) in
    walk_stops nat_cmp (MeetsAs Says) c.args.shares.now c.loop-share.share-index c.share-item.result c.share-item.result.device c.loop-share-test.true c.share-item.is
    (devices_in_order Says c.args.shares.now c.requires)
    (fails_first Says c.share-item.result (λ asked. true≢false (sym (c.meets_group.ensures.1 asked) ∙ c.if-not-meets_group.true)))
    c.loop-share.invariant

pub returns : goal.returns
returns c = walk_ends nat_cmp (MeetsAs (AsksGroup c.args.reason c.args.row.now (map listed c.args.group.now))) c.args.shares.now c.loop-share.share-index c.loop-share-test.false c.loop-share.invariant
