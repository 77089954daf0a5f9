-- A link between two devices (BEP v1; epochs and limits are this project's profile).
use Rattle.std.specs.Prelude.{◌≡◌, ◌<◌, ◌≤◌, false, List, [], length}
use Rattle.bep_record.specs.declared.limits.TheConstants.{MAX_MESSAGES}
use Rattle.bep_model.specs.Tables.{Device}
use Rattle.bep_machine.specs.declared.limits.TheConstants.{MAX_EPOCH}
use Rattle.bep_machine.specs.declared.message.Message.{Message}
use Rattle.bep_machine.specs.Link.{End, Lower, Upper, Link}

-- a link, and the two devices that it joins, the smaller first
pub record LinkBetween : Type 0 where
  pub ends : Device × Device
  pub link : Link

-- what holds of every link: nothing is on its way over one that is down
pub record IsLink (between : LinkBetween) : Type 0 where
  pub rising : between.ends.0 < between.ends.1
  pub epoch : between.link.epoch ≤ MAX_EPOCH
  pub few_to_lower : length between.link.to_lower ≤ MAX_MESSAGES
  pub few_to_upper : length between.link.to_upper ≤ MAX_MESSAGES
  pub quiet : between.link.up ≡ false → (between.link.to_lower ≡ []) × (between.link.to_upper ≡ [])

-- a link that never was up
abbrev pub new_link : Device → Device → LinkBetween
new_link lower upper =
    record { ends = (lower, upper); link = record { up = false; epoch = 0; to_lower = []; to_upper = [] } }

-- these messages are on their way to the end, and to the other one what was before
abbrev pub with_queue_to : End → List Message → Link → Link
with_queue_to Lower queue link = record link { to_lower = queue }
with_queue_to Upper queue link = record link { to_upper = queue }
