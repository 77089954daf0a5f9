use Rattle.bep_model.specs.Tables.{Folder, FileName}
use Rattle.bep_peer.specs.Member.{Member}
use Rattle.bep_peer.specs.network.Network.{cluster_of}
use Rattle.bep_rounds.specs.Finding.{NoneIsBehind}
use Rattle.bep_rounds.proofs.Walks.{SoBefore}
use Rattle.bep_rounds.proofs.finding.find_behind.Given as goal

-- none is behind on a name of which one of the devices so far has the top
abbrev pub invariant-loop-peer : goal.invariant-loop-peer
invariant-loop-peer g l = SoBefore (λ (member : Member). (folder : Folder) (name : FileName) → NoneIsBehind (cluster_of l.cluster) member.number folder name) l.members l.peer-index
