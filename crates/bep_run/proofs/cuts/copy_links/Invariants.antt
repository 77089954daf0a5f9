use Rattle.std.proofs.Common.{◌≡◌, true, length}
use Rattle.bep_run.specs.Origin.{AreFirst, links_in}
use Rattle.bep_run_cut.specs.RunCut.{links_base}
use Rattle.bep_run.specs.Quiet.{link_logs, quiet_logs}
use Rattle.bep_run.proofs.cuts.copy_links.Given as goal

-- the copies so far are those of the first ones
abbrev pub invariant-loop-link : goal.invariant-loop-link
invariant-loop-link g l = record {
  first : AreFirst (links_in g.O.Origin.start) (links_base l.copies.items);
  count : length l.copies.items ≡ l.link-index;
  quiet : quiet_logs g.O.Origin.start (link_logs l.copies.items) ≡ true;
}
