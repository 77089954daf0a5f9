use Rattle.std.proofs.Common.{None, map}
use Rattle.bep_model.specs.declared.reason.Reason.TheVariants.{NameMissing}
use Rattle.bep_model.specs.Settled.{HasRow}
use Rattle.bep_tables.specs.Listed.{key_at, listed}
use Rattle.bep_audit.specs.Walk.{failure_shown}
use Rattle.bep_explain.specs.inner.Rows.{row_shown}
use Rattle.bep_explain.specs.inner.Says.{failure_at, SaysHasRow}
use Rattle.bep_gather.specs.AddFacts.{each_starts, each_goes_on, each_ends}
use Rattle.bep_explain.proofs.OneFact.{adds_at}
use Rattle.bep_explain.proofs.missing.add_missing.Goals as goal

pub loop-entry-init : goal.loop-entry-init
loop-entry-init c = each_starts (SaysHasRow (map row_shown c.args.rows.now)) c.args.entries.now (map failure_shown c.args.found.now.items)

pub loop-entry-preserved : goal.loop-entry-preserved
loop-entry-preserved c =
    let rows = map row_shown c.args.rows.now in
    let key = key_at (listed c.entry-item.result) in
    let middle = map failure_shown c.loop-entry.found.items in
    let new = map failure_shown c.add_unless.new.found.items in
    each_goes_on (SaysHasRow rows) c.args.entries.now c.loop-entry.entry-index c.entry-item.result (map failure_shown c.args.found.now.items) middle new
    c.loop-entry-test.true c.entry-item.is c.loop-entry.invariant
    (adds_at c.reasons_are_numbered.ensures.different (failure_shown c.missing_at.result) (failure_at NameMissing key None) c.missing_at.ensures
    (HasRow rows key.0 key.1) c.has_row-holds.result middle new c.has_row-holds.ensures c.in_ok-add_unless.ensures)

pub returns : goal.returns
returns c =
    each_ends (SaysHasRow (map row_shown c.args.rows.now)) c.args.entries.now c.loop-entry.entry-index
    (map failure_shown c.args.found.now.items) (map failure_shown c.loop-entry.found.items) c.loop-entry-test.false c.loop-entry.invariant
