use Rattle.std.proofs.Common.{map}
use Rattle.bep_tables.specs.declared.table.entry.TableEntry.{TableEntry}
use Rattle.bep_tables.specs.Listed.{listed}
use Rattle.bep_audit.specs.Loose.{loose_shown, AsksEntry}
use Rattle.bep_explain.specs.inner.Rows.{row_shown}
use Rattle.bep_gather.specs.AddFacts.{each_starts, each_goes_on, each_ends}
use Rattle.bep_explain.proofs.loose.add_entries.Goals as goal

pub loop-entry-init : goal.loop-entry-init
loop-entry-init c = each_starts (λ (entry : TableEntry). AsksEntry (map row_shown c.args.rows.now) (listed entry)) c.args.entries.now (map loose_shown c.args.found.now.items)

pub loop-entry-preserved : goal.loop-entry-preserved
loop-entry-preserved c =
    each_goes_on (λ (entry : TableEntry). AsksEntry (map row_shown c.args.rows.now) (listed entry)) c.args.entries.now c.loop-entry.entry-index c.entry-item.result
    (map loose_shown c.args.found.now.items) (map loose_shown c.loop-entry.found.items) (map loose_shown c.add_entry.new.found.items)
    c.loop-entry-test.true c.entry-item.is c.loop-entry.invariant c.in_ok-add_entry.ensures

pub returns : goal.returns
returns c =
    each_ends (λ (entry : TableEntry). AsksEntry (map row_shown c.args.rows.now) (listed entry)) c.args.entries.now c.loop-entry.entry-index
    (map loose_shown c.args.found.now.items) (map loose_shown c.loop-entry.found.items) c.loop-entry-test.false c.loop-entry.invariant
