use Rattle.std.proofs.Common.{◌≡◌, ◌+◌, true, length, Contains}
use Rattle.bep_run.specs.inner.Ending.{KnowsLinks}
use Rattle.bep_history.specs.declared.view.Row.{Row}
use Rattle.bep_run.specs.Origin.{AreFirst, links_in}
use Rattle.bep_run.specs.Quiet.{link_logs, quiet_logs}
use Rattle.bep_run_cut.specs.RunCut.{links_base}
use Rattle.bep_run.proofs.ending.end_links.Given as goal

-- the copies so far are those of the first ones, and their seats came together
abbrev pub invariant-loop-joint : goal.invariant-loop-joint
invariant-loop-joint g l = record {
  own : l.whole.table_id ≡ l.initial.whole.table_id;
  first : AreFirst (links_in g.O.Origin.start) (links_base l.copies.items);
  count : length l.copies.items + length l.joint-iterator.rest.items ≡ length l.fn.links.items;
  quiet : quiet_logs g.O.Origin.start (link_logs l.copies.items) ≡ true;
  knows : KnowsLinks g.O.Tabled.table l.copies.items l.whole.me.0.rows;
  still : (one : Row) → Contains l.initial.whole.me.0.rows one → Contains l.whole.me.0.rows one;
}
