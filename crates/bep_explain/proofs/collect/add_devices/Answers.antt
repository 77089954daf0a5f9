use Rattle.std.proofs.Common.{List, map, subst}
use Rattle.std.specs.Option.{option_copied}
use Rattle.bep_tables.specs.declared.share.Share.{Share}
use Rattle.bep_tables.specs.Cut.{tables_of}
use Rattle.bep_audit.specs.Walk.{failure_shown}
use Rattle.bep_gather.specs.Adding.{AddsFailing, Each}
use Rattle.bep_explain.specs.inner.Says.{SaysBoth}
use Rattle.bep_gather.specs.AddFacts.{each_starts, each_goes_on, each_ends}
use Rattle.bep_explain.proofs.collect.add_devices.Goals as goal

pub loop-share-init : goal.loop-share-init
loop-share-init c = each_starts (SaysBoth (tables_of c.args.cut.now) c.args.row.now (option_copied c.args.other)) c.shares-share-items.result.now (map failure_shown c.args.found.now.items)

pub loop-share-preserved : goal.loop-share-preserved
loop-share-preserved c =
    each_goes_on (SaysBoth (tables_of c.args.cut.now) c.args.row.now (option_copied c.args.other)) c.shares-share-items.result.now c.loop-share.share-index c.share-item.result
    (map failure_shown c.args.found.now.items) (map failure_shown c.loop-share.found.items) (map failure_shown c.add_device.new.found.items)
    c.loop-share-test.true c.share-item.is c.loop-share.invariant c.in_ok-add_device.ensures

pub returns : goal.returns
returns c =
    let Says = SaysBoth (tables_of c.args.cut.now) c.args.row.now (option_copied c.args.other) in
    let old = map failure_shown c.args.found.now.items in
    let new = map failure_shown c.loop-share.found.items in
    subst (λ (all : List Share). AddsFailing (Each Says all) old new) c.shares-share-items.ensures.value
    (each_ends Says c.shares-share-items.result.now c.loop-share.share-index old new c.loop-share-test.false c.loop-share.invariant)
