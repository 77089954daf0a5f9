use Rattle.std.proofs.Common.{◌≡◌, ◌++◌, length}
use Rattle.std.specs.List.{flat_map}
use Rattle.bep_peer.specs.inner.ClusterConfig.{said_of, config_of}
use Rattle.bep_peer.proofs.over.cluster_config.config_for.Given as goal

-- what was said, and what is said of the folders that are left
abbrev pub invariant-loop-folder : goal.invariant-loop-folder
invariant-loop-folder g l = l.named.items ++ flat_map (said_of l.other) l.folder-iterator ≡ config_of l.other l.folders

abbrev pub decreases-loop-folder : goal.decreases-loop-folder
decreases-loop-folder g l = length l.folder-iterator
