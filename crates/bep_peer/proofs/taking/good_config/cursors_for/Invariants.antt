use Rattle.std.proofs.Common.{◌≡◌, drop}
use Rattle.std.specs.FinMap.{empty}
use Rattle.bep_machine.specs.Exchange.{cursors_for}
use Rattle.bep_peer.specs.Member.{tables_in}
use Rattle.bep_peer.proofs.taking.good_config.cursors_for.Given as goal

-- what the rest adds to the cursors so far is what all make
abbrev pub invariant-loop-one : goal.invariant-loop-one
invariant-loop-one g l = cursors_for (drop l.one-index l.named) (tables_in l.folders) l.cursors ≡ cursors_for l.named (tables_in l.folders) empty
