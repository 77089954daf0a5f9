-- A link between two devices, which delivers in order, and what an action does to it (BEP v1; epochs are this project's
-- profile).
use Rattle.std.specs.Prelude.{ℕ, ◌+◌, Bool, true, false, nat_le, nat_lt, List, [], ◌∷◌, ◌++◌, length, drop, Option, Some, None, if◌then◌else◌}
use Rattle.bep_record.specs.declared.limits.TheConstants.{MAX_MESSAGES}
use Rattle.bep_model.specs.Tables.{Device}
use Rattle.bep_machine.specs.declared.message.Message.{Message}

-- one of the two ends of a link, by the number of its device
pub data End : Type 0 where
  Lower : End
  Upper : End

-- the end at which the first device is, of a link between the two
abbrev pub end_of : Device → Device → End
end_of device other = if nat_lt device other then Lower else Upper

-- a link: whether it is up, how often it came up, and what is on its way to each end, the first to arrive first
pub record Link : Type 0 where
  pub up : Bool
  pub epoch : ℕ
  pub to_lower : List Message
  pub to_upper : List Message

-- what is on its way to the end, and away from it
abbrev pub queue_to : End → Link → List Message
queue_to Lower link = link.to_lower
queue_to Upper link = link.to_upper

abbrev pub queue_from : End → Link → List Message
queue_from Lower link = link.to_upper
queue_from Upper link = link.to_lower

abbrev pub with_queues : End → Link → List Message → List Message → Link
with_queues Lower link to from = record link { to_lower = to; to_upper = from }
with_queues Upper link to from = record link { to_lower = from; to_upper = to }

-- the link comes up: the next epoch, and nothing on its way
abbrev pub connected : Link → Link
connected link = record { up = true; epoch = link.epoch + 1; to_lower = []; to_upper = [] }

-- the link goes down, and all that was on its way is lost
abbrev pub lost : Link → Link
lost link = record link { up = false; to_lower = []; to_upper = [] }

-- what an action sees of the link at its end
pub record Sight : Type 0 where
  pub up : Bool
  pub epoch : ℕ
  -- the first message on its way to this end
  pub waiting : Option Message
  -- whether no message more can be sent
  pub full : Bool

abbrev pub first_of_queue : List Message → Option Message
first_of_queue [] = None
first_of_queue (message ∷ more) = Some message

abbrev pub sight_of : End → Link → Sight
sight_of end link = record {
  up = link.up;
  epoch = link.epoch;
  waiting = first_of_queue (queue_to end link);
  full = nat_le MAX_MESSAGES (length (queue_from end link));
}

-- what an action does to the link: takes the message that waits, sends one, or loses the link
pub record Deed : Type 0 where
  pub takes : Bool
  pub sends : Option Message
  pub loses : Bool

abbrev pub nothing_done : Deed
nothing_done = record { takes = false; sends = None; loses = false }

abbrev pub sending : Message → Deed
sending message = record nothing_done { sends = Some message }

abbrev pub taking : Deed
taking = record nothing_done { takes = true }

abbrev pub losing : Deed
losing = record { takes = true; sends = None; loses = true }

-- a list without its first, and with one more
abbrev pub after_taking : Bool → List Message → List Message
after_taking takes queue = if takes then drop 1 queue else queue

abbrev pub after_sending : Option Message → List Message → List Message
after_sending None queue = queue
after_sending (Some message) queue = queue ++ message ∷ []

-- the link afterwards
abbrev pub after_deed : End → Deed → Link → Link
after_deed end deed link =
    if deed.loses then lost link else
    with_queues end link (after_taking deed.takes (queue_to end link)) (after_sending deed.sends (queue_from end link))
