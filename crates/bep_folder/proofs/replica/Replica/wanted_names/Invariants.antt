use Rattle.std.proofs.Common.{take}
use Rattle.std.specs.FinMap.{empty}
use Rattle.bep_folder.specs.inner.Wanted.{AddsWanted}
use Rattle.bep_folder.proofs.WantedFacts.{IsViewedAmong}
use Rattle.bep_folder.proofs.replica.Replica.wanted_names.Given as goal

-- the wanted names of the views so far were added
abbrev pub invariant-loop-other : goal.invariant-loop-other
invariant-loop-other g l = AddsWanted l.self.device l.self.tables empty l.names (IsViewedAmong l.self.tables.views (take l.other-index l.others))
