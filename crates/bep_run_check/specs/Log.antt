-- What holds of every log (this project's profile).
use Rattle.std.specs.Prelude.{◌<◌, List, Contains}
use Rattle.std.specs.List.{AllByRecursion}
use Rattle.bep_machine.specs.Laws.{IsSoundStep}
use Rattle.bep_fit.specs.declared.stamped.Stamped.{Stamped}
use Rattle.bep_fit.specs.Logs.{ObjectLog}
use Rattle.bep_fit.specs.Merge as lists

-- the tickets rise, from 1 or more
pub record AreTicketed (events : List Stamped) : Type 0 where
  pub rise : lists.Rises (λ (one : Stamped). one.ticket) events
  pub above : (one : Stamped) → Contains events one → 0 < one.ticket

-- what the event puts, if it is an edit, is a node
abbrev pub PutsNode : Stamped → Type 0
PutsNode one = IsSoundStep one.event.step

-- the tickets rise, and what edits put are nodes
pub record IsLog (events : List Stamped) : Type 0 where
  pub ticketed : AreTicketed events
  pub nodes : AllByRecursion PutsNode events

-- so it is of the log
abbrev pub IsLogged : ObjectLog → Type 0
IsLogged log = IsLog log.events
