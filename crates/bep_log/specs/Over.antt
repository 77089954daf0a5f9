-- What a device does over a link, as a step, and what it exchanges there (this project's profile).
use Rattle.std.specs.Prelude.{◌==◌, ℕ, Bool, true, false, Option, Some, None, option_map, if◌then◌else◌}
use Rattle.bep_model.specs.Tables.{Device, Folder, FileName}
use Rattle.bep_machine.specs.declared.logged.Exchanged.{Exchanged}
use Rattle.bep_machine.specs.declared.logged.Exchanged.TheVariants.{Sent, Took, Broke}
use Rattle.bep_machine.specs.declared.logged.Traffic.{Traffic}
use Rattle.bep_machine.specs.declared.message.Message.{Message}
use Rattle.bep_machine.specs.declared.step.Step.{Step}
use Rattle.bep_machine.specs.declared.step.Step.TheVariants as steps
use Rattle.bep_machine.specs.Answer.{Row}
use Rattle.bep_machine.specs.Exchange.{BeginRow, DeliverRow, AnnounceRow, AskRow}
use Rattle.bep_machine.specs.Link.{Sight, end_of, first_of_queue, queue_to}
use Rattle.bep_machine.specs.Peer.{Peer, Acted}
use Rattle.bep_links.specs.Link.{LinkBetween}
use Rattle.bep_peer.specs.Lent.{NamesFolder, NamesNone}
use Rattle.bep_log.specs.declared.ready.Ready.{Ready}
use Rattle.bep_log.specs.declared.over.Over.{Over}
use Rattle.bep_log.specs.declared.over.Over.TheVariants.{Begin, Deliver, Announce, Ask}

-- an action over a link
pub record Doing : Type 1 where
  -- its step, of the device and the other one
  pub step : Device → Device → Step
  -- the row that the device makes at its end, with the other one, at the call of its store that failed
  pub row : Option ℕ → Device → Sight → Peer → Row Acted
  -- what the step names besides, as the device has it at hand
  pub shares : Device → Peer → Type 0
  -- whether it takes the first message that waits
  pub takes : Bool

abbrev pub begins : Doing
begins = record { step = steps.Begin; row = λ failed. BeginRow; shares = NamesNone; takes = false }

abbrev pub delivers : Doing
delivers = record { step = steps.Deliver; row = λ failed other. DeliverRow other failed; shares = NamesNone; takes = true }

abbrev pub announces : Folder → Doing
announces folder = record { step = λ device other. steps.Announce device other folder; row = λ failed other. AnnounceRow other folder; shares = NamesFolder folder; takes = false }

abbrev pub asks : Folder → FileName → Doing
asks folder name = record { step = λ device other. steps.Ask device other folder name; row = λ failed other. AskRow other folder name; shares = NamesFolder folder; takes = false }

abbrev pub doing_of : Over → Doing
doing_of Begin = begins
doing_of Deliver = delivers
doing_of (Announce folder) = announces folder.now
doing_of (Ask folder name) = asks folder.now name.now

-- the device at the other end
abbrev pub other_end : Device × Device → Device → Device
other_end ends device = if ends.0 == device then ends.1 else ends.0

-- the first message that waits for the device, if the action takes it
abbrev pub taken_by : Bool → Device → LinkBetween → Option Message
taken_by false device between = None
taken_by true device between = first_of_queue (queue_to (end_of device (other_end between.ends device)) between.link)

-- What was done to the link, by the message that was taken, the one that was sent, and whether the link is still up: one was
-- sent; or one was taken, and maybe answered; or one was taken, and the link was lost.
abbrev pub exchanged : Option Message → Option Message → Bool → Option Exchanged
exchanged None None up = None
exchanged None (Some sent) up = Some (Sent sent)
exchanged (Some taken) sent true = Some (Took taken sent)
exchanged (Some taken) sent false = Some (Broke taken)

-- the traffic of an event, in this epoch of the link
abbrev pub in_epoch : ℕ → Option Exchanged → Option Traffic
in_epoch epoch done = option_map (λ (one : Exchanged). record { epoch = epoch; done = one }) done

-- what is ready for one of the two logs before the action is made
abbrev pub ready_for : Doing → Device → LinkBetween → Ready
ready_for doing device between = record {
  step = doing.step device (other_end between.ends device);
  epoch = between.link.epoch;
  taken = taken_by doing.takes device between;
}
