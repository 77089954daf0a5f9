use Rattle.std.specs.Option.{option_copied}
use Rattle.bep_converge_check.proofs.KnownFacts.{none_own, highest_at, highest_of_all}
use Rattle.bep_converge_check.proofs.known.highest_own.Goals as goal

pub loop-entry-init : goal.loop-entry-init
loop-entry-init c = none_own c.args.group.now

pub loop-entry-preserved : goal.loop-entry-preserved
loop-entry-preserved c =
    highest_at c.args.group.now c.loop-entry.entry-index c.entry-item.result c.loop-entry-test.true c.entry-item.is
    (option_copied c.loop-entry.highest) (option_copied c.own_of.result) (option_copied c.higher-highest.result) c.loop-entry.invariant c.own_of.ensures c.higher-highest.ensures

pub returns : goal.returns
returns c = highest_of_all c.args.group.now c.loop-entry.entry-index c.loop-entry-test.false (option_copied c.loop-entry.highest) c.loop-entry.invariant
