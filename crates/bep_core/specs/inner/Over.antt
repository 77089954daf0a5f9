-- What a device does over its link with another one, as the cluster's steps have it (this project's profile).
use Rattle.std.specs.Prelude.{◌≡◌, ℕ, Option, None, Result}
use Rattle.bep_model.specs.Tables.{Device}
use Rattle.bep_machine.specs.declared.moved.Moved.{Moved}
use Rattle.bep_machine.specs.declared.step.Step.{Step}
use Rattle.bep_machine.specs.declared.step.Step.TheVariants as steps
use Rattle.bep_machine.specs.Answer.{Row}
use Rattle.bep_machine.specs.Exchange.{BeginRow, DeliverRow, AnnounceRow, AskRow}
use Rattle.bep_machine.specs.Link.{Sight}
use Rattle.bep_machine.specs.Peer.{Peer, Acted}
use Rattle.bep_peer.specs.declared.error.PeerError.{PeerError}
use Rattle.bep_peer.specs.declared.trace.Trace.{Trace}
use Rattle.bep_peer.specs.Delivered.{TellsRead}
use Rattle.bep_peer.specs.Lent.{NamesNone, NamesFolder}
use Rattle.bep_core.specs.declared.session_steps.Over.{Over}
use Rattle.bep_core.specs.declared.session_steps.Over.TheVariants.{Begin, Deliver, Announce, Ask}

-- the step of the cluster
abbrev pub step_of : Over → Device → Device → Step
step_of Begin device other = steps.Begin device other
step_of Deliver device other = steps.Deliver device other
step_of (Announce folder) device other = steps.Announce device other folder
step_of (Ask folder name) device other = steps.Ask device other folder name

-- the row that the device makes with the other one, at the call of its store that failed
abbrev pub row_of : Over → Option ℕ → Device → Sight → Peer → Row Acted
row_of Begin failed other = BeginRow other
row_of Deliver failed other = DeliverRow other failed
row_of (Announce folder) failed other = AnnounceRow other folder
row_of (Ask folder name) failed other = AskRow other folder name

-- what the step names besides, as the device has it at hand
abbrev pub shares_of : Over → Device → Peer → Type 0
shares_of Begin = NamesNone
shares_of Deliver = NamesNone
shares_of (Announce folder) = NamesFolder folder
shares_of (Ask folder name) = NamesFolder folder

-- what the device tells of its stores: a delivery alone reads one
abbrev pub TellsOver : Over → Trace → Result Moved PeerError → Type 0
TellsOver Begin trace result = trace.failed ≡ None
TellsOver Deliver trace result = TellsRead trace result
TellsOver (Announce folder) trace result = trace.failed ≡ None
TellsOver (Ask folder name) trace result = trace.failed ≡ None
