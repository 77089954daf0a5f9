-- What a seat knows of copies with which a running cluster ends (this project's profile).
use Rattle.std.specs.Prelude.{◌≡◌, List, Option, Some, None, Contains}
use Rattle.atomic_table.specs.Seated.{TableId}
use Rattle.bep_history.specs.View.{row}
use Rattle.bep_history.specs.declared.view.Row.{Row}
use Rattle.bep_fit.specs.Logs.{ObjectLog}
use Rattle.bep_log.specs.LoggedLink.{LoggedBetween}
use Rattle.bep_log.specs.LoggedPeer.{LoggedMember}
use Rattle.bep_run_cut.specs.RunCut.{device_log, link_log}

-- the rows have the log, which didn't begin anew
abbrev pub HaveLog : List Row → ObjectLog → Type 0
HaveLog rows log = (log.round ≡ 0) × Contains rows (row log.object log.events)

-- where there is a history, the rows have the log of each of these copies
abbrev pub KnowsEach : {A : Type 0} → (A → ObjectLog) → Option TableId → List A → List Row → Type 0
KnowsEach log_of None copies rows = Unit {0}
KnowsEach {A} log_of (Some table) copies rows = (copy : A) → Contains copies copy → HaveLog rows (log_of copy)

abbrev pub KnowsDevices : Option TableId → List LoggedMember → List Row → Type 0
KnowsDevices = KnowsEach device_log

abbrev pub KnowsLinks : Option TableId → List LoggedBetween → List Row → Type 0
KnowsLinks = KnowsEach link_log
