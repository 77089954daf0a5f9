-- Small logs on which the definitions are tried out: of two devices and their link, which comes up, and over which the first
-- device then begins a session (this project's profile).
use Rattle.std.specs.Prelude.{ℕ, false, List, [], ◌∷◌, Option, None}
use Rattle.bep_machine.specs.declared.logged.Traffic.{Traffic}
use Rattle.bep_machine.specs.declared.step.Step.TheVariants.{Connect, Begin}
use Rattle.bep_fit.specs.declared.object.Object.TheVariants as objects
use Rattle.bep_fit.specs.declared.stamped.Stamped.{Stamped}
use Rattle.bep_fit.specs.Logs.{ObjectLog}

-- the link comes up, under ticket 1
abbrev pub comes_up : Stamped
comes_up = record { ticket = 1; event = record { step = Connect 1 2; failed = None; kept = false; traffic = None } }

-- the first device begins a session, under ticket 2, whatever it sends
abbrev pub begins : Option Traffic → Stamped
begins traffic = record { ticket = 2; event = record { step = Begin 1 2; failed = None; kept = false; traffic = traffic } }

-- what the logs of the first device and of the link have; the second device's has nothing, and this is its round
abbrev pub logs_of : List Stamped → List Stamped → ℕ → List ObjectLog
logs_of first link round =
    record { object = objects.Device 1; round = 0; events = first } ∷
    record { object = objects.Device 2; round = round; events = [] } ∷
    record { object = objects.Link 1 2; round = 0; events = link } ∷ []
