use Rattle.std.proofs.Common.{◌≡◌, drop}
use Rattle.bep_scenario.specs.Configured.{with_shares, MayShare}
use Rattle.bep_scenario.proofs.start.add_shares.Given as goal

-- what is there with those that are left is all of them, and these may be added if all may
abbrev pub invariant-loop-share : goal.invariant-loop-share
invariant-loop-share l = record {
  value : with_shares l.config l.folder (drop l.share-index l.shares) ≡ with_shares l.initial.config l.folder l.shares;
  may : MayShare l.initial.config l.folder l.shares → MayShare l.config l.folder (drop l.share-index l.shares);
}
