-- Logs without local steps and resets: so they are where it is known how a cluster began (this project's profile).
use Rattle.std.specs.Prelude.{◌&&◌, ⊤, Bool, true, false, List, [], ◌∷◌, map, Option, Some, None}
use Rattle.bep_fit.specs.declared.stamped.Stamped.{Stamped}
use Rattle.bep_fit.specs.Logs.{ObjectLog}
use Rattle.bep_fit.specs.Replayed.{AreQuietLogs, AreResetOf}
use Rattle.bep_log.specs.LoggedLink.{LoggedBetween}
use Rattle.bep_log.specs.LoggedPeer.{LoggedMember}
use Rattle.bep_machine.specs.declared.step.Step.{Step}
use Rattle.bep_machine.specs.declared.step.Step.TheVariants.{Edit, Remove, Scan, Override, Revert, Connect, Lose, Begin, Deliver, Announce, StartPull, Ask, Finish, Restart, Reset}
use Rattle.bep_peer.specs.network.Network.{Network}

-- a step that no user makes, and that resets no device
abbrev pub is_quiet : Step → Bool
is_quiet (Edit device folder name node) = false
is_quiet (Remove device folder name) = false
is_quiet (Scan device folder name) = true
is_quiet (Override device folder name) = false
is_quiet (Revert device folder name) = false
is_quiet (Connect one other) = true
is_quiet (Lose one other) = true
is_quiet (Begin device other) = true
is_quiet (Deliver device other) = true
is_quiet (Announce device other folder) = true
is_quiet (StartPull device folder name) = true
is_quiet (Ask device other folder name) = true
is_quiet (Finish device folder name) = true
is_quiet (Restart device) = true
is_quiet (Reset device id) = false

-- each event is of such a step
abbrev pub are_quiet : List Stamped → Bool
are_quiet [] = true
are_quiet (one ∷ more) = is_quiet one.event.step && are_quiet more

-- so the log is, where it is known how the cluster began; where nothing is known, whichever it is
abbrev pub quiet_log : Option Network → List Stamped → Bool
quiet_log None log = true
quiet_log (Some origin) log = are_quiet log

-- the same of logs
abbrev pub quiet_logs : Option Network → List (List Stamped) → Bool
quiet_logs start [] = true
quiet_logs start (log ∷ more) = quiet_log start log && quiet_logs start more

-- those of copies of devices, and of links
abbrev pub device_logs : List LoggedMember → List (List Stamped)
device_logs = map (λ (copy : LoggedMember). copy.log)

abbrev pub link_logs : List LoggedBetween → List (List Stamped)
link_logs = map (λ (copy : LoggedBetween). copy.log)

-- where it is known how the cluster began, no event in these logs is a local step, and none a reset
abbrev pub AreStill : Option Network → List ObjectLog → Type 0
AreStill None logs = ⊤
AreStill (Some origin) logs = AreQuietLogs logs × AreResetOf logs []
