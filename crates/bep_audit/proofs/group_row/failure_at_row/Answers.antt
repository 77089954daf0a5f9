use Rattle.bep_tables.specs.Cut.{tables_of}
use Rattle.bep_audit.specs.Shown.{place_shown}
use Rattle.bep_audit.proofs.GroupRow.{here_starts, here_goes_on, here_fails, here_ends}
use Rattle.bep_audit.proofs.group_row.failure_at_row.Goals as goal

pub loop-reason-init : goal.loop-reason-init
loop-reason-init c = here_starts (tables_of c.args.cut.now) c.args.row.now c.reasons_are_numbered.ensures.within

pub loop-reason-preserved : goal.loop-reason-preserved
loop-reason-preserved c =
    here_goes_on (tables_of c.args.cut.now) c.args.row.now c.reasons_are_numbered.ensures.different c.loop-reason.reason-index c.loop-reason-test.true c.loop-reason.invariant c.in_default.ensures

pub returns-in-Some : goal.returns-in-Some
returns-in-Some c =
    here_fails (tables_of c.args.cut.now) c.args.row.now c.reasons_are_numbered.ensures.different c.loop-reason.reason-index c.loop-reason-test.true c.loop-reason.invariant
    (place_shown c.in-Some.spot) c.in-Some.ensures

pub returns : goal.returns
returns c = here_ends (tables_of c.args.cut.now) c.args.row.now c.reasons_are_numbered.ensures.within c.loop-reason.reason-index c.loop-reason-test.false c.loop-reason.invariant
