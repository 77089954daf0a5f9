use Rattle.std.proofs.Common.{◌≡◌, drop}
use Rattle.bep_run_cut.specs.inner.Tested.{rise_after}
use Rattle.bep_run_cut.proofs.whole.rise_after.Given as goal

-- the devices that are left rise exactly where all do
abbrev pub invariant-loop-peer : goal.invariant-loop-peer
invariant-loop-peer l = rise_after l.low (drop l.peer-index l.peers) ≡ rise_after l.fn.low l.peers
