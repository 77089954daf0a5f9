use Rattle.std.proofs.Common.{◌≡◌, ◌++◌, drop, map, flat_map}
use Rattle.std.specs.List.{AllByRecursion}
use Rattle.bep_cut.specs.Cut.{IsSoundIn, seen, share_at}
use Rattle.bep_cut.specs.Parts.{faults_of, links_of}
use Rattle.bep_cut.proofs.folder.shares_at.Given as goal

-- the devices' tables and their stores' counts are as they were; the shares so far with those that are left are all of them
abbrev pub invariant-loop-peer : goal.invariant-loop-peer
invariant-loop-peer g l = record {
  same : map seen l.peers ≡ map seen l.fn.peers;
  linked : links_of l.peers ≡ links_of l.fn.peers;
  counts : map faults_of l.peers ≡ map faults_of l.fn.peers;
  made : l.shares.items ++ flat_map (share_at l.folder) (drop l.peer-index (map seen l.fn.peers)) ≡ flat_map (share_at l.folder) (map seen l.fn.peers);
  each : AllByRecursion (IsSoundIn l.folder) (drop l.peer-index (map seen l.fn.peers)) → AllByRecursion (IsSoundIn l.folder) (map seen l.fn.peers);
}
