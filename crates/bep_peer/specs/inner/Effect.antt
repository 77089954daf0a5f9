-- What taking a message does to the link over which it came (BEP v1, 'Request', 'Response'; this project's profile).
use Rattle.std.specs.Prelude.{◌≡◌, ℕ, Option, Some, None, Result, Ok, Err}
use Rattle.bep_machine.specs.declared.message.Message.TheVariants as messages
use Rattle.bep_machine.specs.declared.moved.Moved.{Moved}
use Rattle.bep_machine.specs.declared.moved.Moved.TheVariants.{Changed, LinkLost}
use Rattle.bep_machine.specs.Answer.{Row, Done, Refused as Refuses}
use Rattle.bep_machine.specs.Link.{Deed, taking, losing}
use Rattle.bep_machine.specs.Peer.{Acted, idle}
use Rattle.bep_peer.specs.declared.taking.effect.Effect.{Effect}
use Rattle.bep_peer.specs.declared.taking.effect.Effect.TheVariants.{Taken, Answered, Lost}
use Rattle.bep_peer.specs.declared.error.PeerError.{PeerError}
use Rattle.bep_peer.specs.declared.error.PeerError.TheVariants.{Refused, Stale, Memory}
use Rattle.bep_peer.specs.declared.trace.Trace.{Trace}
use Rattle.bep_peer.specs.Delivered.{failure_of}
use Rattle.bep_peer.specs.Member.{Member, nothing_told, tables_of}

-- what is done to the link
abbrev pub deed_of : Effect → Deed
deed_of Taken = taking
deed_of (Answered response) = record taking { sends = Some (messages.Response response) }
deed_of Lost = losing

-- what the step answers
abbrev pub moved_of : Effect → Moved
moved_of Taken = Changed
moved_of (Answered response) = Changed
moved_of Lost = LinkLost

-- A message was taken: the row gives the tables with what is done to the link, or refuses. Memory may be wanting, and the
-- tables are as before then.
abbrev pub Takes : Row Acted → Member → Member → Result Effect PeerError → Type 0
Takes row old new (Ok effect) = row (record { peer = tables_of new; deed = deed_of effect }) (Done (moved_of effect))
Takes row old new (Err (Refused refusal)) = row (idle (tables_of new)) (Refuses refusal)
Takes row old new (Err Stale) = ⊥
Takes row old new (Err Memory) = tables_of new ≡ tables_of old

-- no response is sent
abbrev pub SendsNone : Effect → Type 0
SendsNone effect = (deed_of effect).sends ≡ None

abbrev pub failure_answered : Effect → Option ℕ
failure_answered (Answered response) = failure_of response.code
failure_answered effect = None

-- what taking a message tells: a read that failed, exactly where this is answered
abbrev pub TellsAnswer : Trace → Result Effect PeerError → Type 0
TellsAnswer trace (Ok effect) = trace ≡ record nothing_told { failed = failure_answered effect }
TellsAnswer trace (Err error) = trace ≡ nothing_told
