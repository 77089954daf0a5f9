use Rattle.std.proofs.Common.{◌↔◌, drop}
use Rattle.bep_machine.specs.Exchange.{NamesShared}
use Rattle.bep_peer.specs.Member.{tables_of}
use Rattle.bep_peer.proofs.peer.Peer.shares_all.Given as goal

-- the rest names shared folders alone exactly where all do
abbrev pub invariant-loop-one : goal.invariant-loop-one
invariant-loop-one g l = NamesShared l.other (tables_of l.self) (drop l.one-index l.named) ↔ NamesShared l.other (tables_of l.self) l.named
