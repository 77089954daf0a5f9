use Rattle.std.proofs.Common.{◌↔◌, drop}
use Rattle.bep_machine.specs.Exchange.{NamesOnce}
use Rattle.bep_peer.proofs.over.cluster_config.names_once.Given as goal

-- the rest names each folder once exactly where all do
abbrev pub invariant-loop-i : goal.invariant-loop-i
invariant-loop-i l = NamesOnce (drop l.i l.named) ↔ NamesOnce l.named
