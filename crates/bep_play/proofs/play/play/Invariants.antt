use Rattle.bep_peer.specs.network.Network.{cluster_of}
use Rattle.bep_play.proofs.PlayFacts.{LeadsSoFar}
use Rattle.bep_play.proofs.play.play.Given as goal

-- the steps so far, with those that are left, are all of them
abbrev pub invariant-loop-step : goal.invariant-loop-step
invariant-loop-step l = LeadsSoFar (cluster_of l.fn.cluster) l.fn.steps (cluster_of l.cluster) l.step-iterator l.told.items l.place
