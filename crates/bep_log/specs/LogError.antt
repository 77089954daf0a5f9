-- The errors of actions that are logged.
use Rattle.std.specs.Prelude.{ℕ, Option, Some, None, Result, Ok, Err}
use Rattle.bep_links.specs.declared.error.LinkError.{LinkError}
use Rattle.bep_links.specs.declared.error.LinkError.TheVariants as link
use Rattle.bep_machine.specs.declared.refusal.Refusal.TheVariants as refusals
use Rattle.bep_machine.specs.Answer.{number_of as number_of_refusal}
use Rattle.bep_peer.specs.declared.error.PeerError.{PeerError}
use Rattle.bep_peer.specs.declared.error.PeerError.TheVariants as peer
use Rattle.bep_log.specs.declared.error.LogError.{LogError}
use Rattle.bep_log.specs.declared.error.LogError.TheVariants.{TicketOld, LogFull, Refused, Stale, Memory}

-- the numbers under which the product prints refusals
abbrev pub number_of : LogError → Option ℕ
number_of TicketOld = Some 171
number_of LogFull = Some 172
number_of (Refused refusal) = Some (number_of_refusal refusal)
number_of Stale = Some 148
number_of Memory = None

-- an error of an action, once its ticket was taken
abbrev pub of_peer : PeerError → LogError
of_peer (peer.Refused refusal) = Refused refusal
of_peer peer.Stale = Stale
of_peer peer.Memory = Memory

abbrev pub answer_of : {A : Type 0} → Result A PeerError → Result A LogError
answer_of (Ok done) = Ok done
answer_of (Err error) = Err (of_peer error)

-- an error of a link, once a ticket was taken
abbrev pub of_link : LinkError → LogError
of_link link.LinkDown = Refused refusals.LinkDown
of_link link.LinkFull = Refused refusals.LinkFull
of_link link.EpochFull = Refused refusals.EpochFull
of_link link.NothingToDo = Refused refusals.NothingToDo
of_link link.Memory = Memory
