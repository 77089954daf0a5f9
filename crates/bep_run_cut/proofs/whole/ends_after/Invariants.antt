use Rattle.std.proofs.Common.{◌≡◌, drop}
use Rattle.bep_run_cut.specs.inner.Tested.{ends_after}
use Rattle.bep_run_cut.proofs.whole.ends_after.Given as goal

-- the links that are left rise exactly where all do
abbrev pub invariant-loop-link : goal.invariant-loop-link
invariant-loop-link l = ends_after l.low (drop l.link-index l.links) ≡ ends_after l.fn.low l.links
