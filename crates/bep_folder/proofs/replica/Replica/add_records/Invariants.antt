use Rattle.std.proofs.Common.{map}
use Rattle.std.specs.Map.Iter.{deref}
use Rattle.bep_folder.specs.inner.Wanted.{AddsWanted}
use Rattle.bep_folder.proofs.WantedFacts.{IsNameOf}
use Rattle.bep_folder.proofs.replica.Replica.add_records.Given as goal

-- the wanted names of the records so far were added
abbrev pub invariant-loop-entry : goal.invariant-loop-entry
invariant-loop-entry g l = AddsWanted l.self.device l.self.tables l.fn.names l.names (IsNameOf (map deref l.yielded))
