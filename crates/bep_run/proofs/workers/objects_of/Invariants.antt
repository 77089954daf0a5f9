use Rattle.std.proofs.Common.{◌≡◌, ◌++◌, take}
use Rattle.bep_run.specs.inner.Kept.{objects_of_links, objects_of_peers}
use Rattle.bep_run.proofs.workers.objects_of.Given as goal

-- the first devices, and then all of them and the first links
abbrev pub invariant-loop-peer : goal.invariant-loop-peer
invariant-loop-peer g l = l.objects.items ≡ objects_of_peers (take l.peer-index l.cluster.members)

abbrev pub invariant-loop-link : goal.invariant-loop-link
invariant-loop-link g l = l.objects.items ≡ objects_of_peers l.cluster.members ++ objects_of_links (take l.link-index l.cluster.links)
