use Rattle.std.proofs.Common.{List, map, subst}
use Rattle.bep_tables.specs.declared.share.Share.{Share}
use Rattle.bep_tables.specs.Cut.{tables_of}
use Rattle.bep_gather.specs.Adding.{AddsFailing, Each}
use Rattle.bep_gather.specs.AddFacts.{each_starts, each_goes_on, each_ends}
use Rattle.bep_converge_check.specs.Hindrance.{hinder_shown}
use Rattle.bep_converge_check.specs.inner.Says.{SaysShare}
use Rattle.bep_converge_check.proofs.all_at.add_devices.Goals as goal

pub loop-share-init : goal.loop-share-init
loop-share-init c = each_starts (SaysShare (tables_of c.args.cut.now) (c.args.folder.now, c.args.name.now)) c.shares-share-items.result.now (map hinder_shown c.args.found.now.items)

pub loop-share-preserved : goal.loop-share-preserved
loop-share-preserved c =
    each_goes_on (SaysShare (tables_of c.args.cut.now) (c.args.folder.now, c.args.name.now)) c.shares-share-items.result.now c.loop-share.share-index c.share-item.result
    (map hinder_shown c.args.found.now.items) (map hinder_shown c.loop-share.found.items) (map hinder_shown c.add_device.new.found.items)
    c.loop-share-test.true c.share-item.is c.loop-share.invariant c.in_ok-add_device.ensures

pub returns : goal.returns
returns c =
    let Says = SaysShare (tables_of c.args.cut.now) (c.args.folder.now, c.args.name.now) in
    let old = map hinder_shown c.args.found.now.items in
    let new = map hinder_shown c.loop-share.found.items in
    subst (λ (all : List Share). AddsFailing (Each Says all) old new) c.shares-share-items.ensures.value
    (each_ends Says c.shares-share-items.result.now c.loop-share.share-index old new c.loop-share-test.false c.loop-share.invariant)
