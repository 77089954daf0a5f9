use Rattle.std.proofs.Common.{◌-◌, ◌^◌}
use Rattle.bep_model.specs.Tables.{FileName}
use Rattle.bep_peer.specs.network.Network.{cluster_of}
use Rattle.bep_rounds.specs.Finding.{NoneIsBehind}
use Rattle.bep_rounds.proofs.Walks.{SoUpTo}
use Rattle.bep_rounds.proofs.finding.behind_in.Given as goal

-- none is behind on the names of the records up to this sequence
abbrev pub invariant-loop-top : goal.invariant-loop-top
invariant-loop-top g l = SoUpTo (λ (name : FileName). NoneIsBehind (cluster_of l.cluster) l.replica.device l.replica.folder name) l.index l.sequence

abbrev pub decreases-loop-top : goal.decreases-loop-top
decreases-loop-top g l = 2 ^ 64 - l.sequence
