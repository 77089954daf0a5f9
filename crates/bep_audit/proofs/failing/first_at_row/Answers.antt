use Rattle.std.proofs.Common.{Some, None}
use Rattle.bep_model.specs.Reasons.{place_cmp}
use Rattle.bep_tables.specs.Cut.{tables_of}
use Rattle.bep_audit.specs.Shown.{place_shown}
use Rattle.bep_audit.proofs.RowWalk.{AsksRow, rows_in_order, found_in_rows}
use Rattle.bep_audit.proofs.WalkFacts.{walk_starts, walk_goes_on, walk_stops, walk_ends}
use Rattle.bep_audit.proofs.failing.first_at_row.Goals as goal

pub loop-row-init : goal.loop-row-init
loop-row-init c = walk_starts place_cmp (AsksRow (tables_of c.args.cut.now) c.args.reason) c.args.rows.now

pub loop-row-preserved : goal.loop-row-preserved
loop-row-preserved c =
    walk_goes_on place_cmp (AsksRow (tables_of c.args.cut.now) c.args.reason) c.args.rows.now c.loop-row.row-index c.row-item.result
    c.loop-row-test.true c.row-item.is c.in_default.ensures c.loop-row.invariant

pub returns-in-Some : goal.returns-in-Some
returns-in-Some c =
    found_in_rows (tables_of c.args.cut.now) c.args.reason c.requires.of_rows c.args.rows.now (Some (place_shown c.in-Some.spot))
    (walk_stops place_cmp (AsksRow (tables_of c.args.cut.now) c.args.reason) c.args.rows.now c.loop-row.row-index c.row-item.result (place_shown c.in-Some.spot)
    c.loop-row-test.true c.row-item.is (rows_in_order (tables_of c.args.cut.now) c.args.reason c.requires.of_rows c.args.rows.now c.requires.rise)
    c.in-Some.ensures c.loop-row.invariant)

pub returns : goal.returns
returns c =
    found_in_rows (tables_of c.args.cut.now) c.args.reason c.requires.of_rows c.args.rows.now None
    (walk_ends place_cmp (AsksRow (tables_of c.args.cut.now) c.args.reason) c.args.rows.now c.loop-row.row-index c.loop-row-test.false c.loop-row.invariant)
