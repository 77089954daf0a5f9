use Rattle.std.specs.Option.{option_copied}
use Rattle.bep_audit.proofs.MissingFacts.{least_of_none, least_goes_on, least_of_all}
use Rattle.bep_audit.proofs.least.least_of.Goals as goal

pub loop-one-init : goal.loop-one-init
loop-one-init g c = least_of_none c.args.rows.now c.args.folder.now (λ one. g.T.HasNames.names one c.args.folder.now)

pub loop-one-preserved : goal.loop-one-preserved
loop-one-preserved g c =
    least_goes_on c.args.rows.now c.args.folder.now (λ one. g.T.HasNames.names one c.args.folder.now)
    c.args.items.now c.loop-one.one-index c.one-item.result c.loop-one-test.true c.one-item.is
    (option_copied c.loop-one.least) (option_copied c.least_missing.result) (option_copied c.lesser-least.result)
    c.loop-one.invariant c.least_missing.ensures c.lesser-least.ensures

pub returns : goal.returns
returns g c =
    least_of_all c.args.rows.now c.args.folder.now (λ one. g.T.HasNames.names one c.args.folder.now)
    c.args.items.now c.loop-one.one-index c.loop-one-test.false (option_copied c.loop-one.least) c.loop-one.invariant
