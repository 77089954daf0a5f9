use Rattle.std.proofs.Common.{◌≡◌, ◌++◌, map}
use Rattle.std.specs.List.{AllByRecursion}
use Rattle.bep_cut.specs.Cut.{AreSoundIn, seen, folder_cut, folders_of}
use Rattle.bep_cut.specs.Parts.{faults_of, links_of}
use Rattle.bep_cut.proofs.folders.folders_cut.Given as goal

-- the devices' tables and their stores' counts are as they were; the folders so far with those that are left are all of them
abbrev pub invariant-loop-name : goal.invariant-loop-name
invariant-loop-name g l = record {
  same : map seen l.peers ≡ map seen l.fn.peers;
  linked : links_of l.peers ≡ links_of l.fn.peers;
  counts : map faults_of l.peers ≡ map faults_of l.fn.peers;
  made : l.made.items ++ map (folder_cut (map seen l.fn.peers)) (map (λ e. e.0) l.name-iterator) ≡ map (folder_cut (map seen l.fn.peers)) (folders_of (map seen l.fn.peers));
  each : AllByRecursion (AreSoundIn (map seen l.fn.peers)) (map (λ e. e.0) l.name-iterator) → AllByRecursion (AreSoundIn (map seen l.fn.peers)) (folders_of (map seen l.fn.peers));
}
