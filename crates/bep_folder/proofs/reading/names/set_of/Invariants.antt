use Rattle.std.proofs.Common.{take}
use Rattle.bep_folder.proofs.NamesFacts.{AreNames}
use Rattle.bep_folder.proofs.reading.names.set_of.Given as goal

-- the names so far were added
abbrev pub invariant-loop-name : goal.invariant-loop-name
invariant-loop-name l = AreNames (take l.name-index l.list) l.names
