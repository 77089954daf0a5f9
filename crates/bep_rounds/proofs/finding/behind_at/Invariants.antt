use Rattle.std.proofs.Common.{length}
use Rattle.std.specs.FinMap.{entries}
use Rattle.bep_model.specs.Tables.{Folder, FileName}
use Rattle.bep_folder.specs.Held.{Held}
use Rattle.bep_peer.specs.network.Network.{cluster_of}
use Rattle.bep_rounds.specs.Finding.{NoneIsBehind}
use Rattle.bep_rounds.proofs.Walks.{IsLeft}
use Rattle.bep_rounds.proofs.finding.behind_at.Given as goal

-- none is behind on the names of the folders so far
abbrev pub invariant-loop-folder : goal.invariant-loop-folder
invariant-loop-folder g l = IsLeft (λ (one : Folder × Held). (name : FileName) → NoneIsBehind (cluster_of l.cluster) l.peer.number one.0 name) (entries l.peer.folders) l._folder-iterator

abbrev pub decreases-loop-folder : goal.decreases-loop-folder
decreases-loop-folder g l = length l._folder-iterator
