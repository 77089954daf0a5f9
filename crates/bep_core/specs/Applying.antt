-- What a cluster tells of the step that it made last (this project's profile).
use Rattle.std.specs.Prelude.{ℕ, List, Option, Some, None}
use Rattle.bep_model.specs.Tables.{Device}
use Rattle.bep_machine.specs.declared.step.Step.{Step}
use Rattle.bep_machine.specs.declared.step.Step.TheVariants.{Edit, Remove, Scan, Override, Revert, Connect, Lose, Begin, Deliver, Announce, StartPull, Ask, Finish, Restart, Reset}
use Rattle.bep_peer.specs.Member.{Member}
use Rattle.bep_peer.specs.network.Network.{failed_at}

-- the device that makes the step; a link that comes up or goes down does so by itself
abbrev pub maker_of : Step → Option Device
maker_of (Edit device folder name node) = Some device
maker_of (Remove device folder name) = Some device
maker_of (Scan device folder name) = Some device
maker_of (Override device folder name) = Some device
maker_of (Revert device folder name) = Some device
maker_of (Connect one other) = None
maker_of (Lose one other) = None
maker_of (Begin device other) = Some device
maker_of (Deliver device other) = Some device
maker_of (Announce device other folder) = Some device
maker_of (StartPull device folder name) = Some device
maker_of (Ask device other folder name) = Some device
maker_of (Finish device folder name) = Some device
maker_of (Restart device) = Some device
maker_of (Reset device id) = Some device

-- which call of its store failed in this device
abbrev pub failed_in : Option Device → List Member → Option ℕ
failed_in None members = None
failed_in (Some device) members = failed_at members device

-- which call of its store failed in the device that made the step
abbrev pub failed_by : Step → List Member → Option ℕ
failed_by step members = failed_in (maker_of step) members
