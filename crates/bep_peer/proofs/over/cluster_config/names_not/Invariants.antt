use Rattle.std.proofs.Common.{◌↔◌, drop}
use Rattle.bep_machine.specs.Exchange.{NamesNot}
use Rattle.bep_peer.proofs.over.cluster_config.names_not.Given as goal

-- the rest doesn't name the folder exactly where none does
abbrev pub invariant-loop-one : goal.invariant-loop-one
invariant-loop-one l = NamesNot l.folder (drop l.one-index l.named) ↔ NamesNot l.folder l.named
