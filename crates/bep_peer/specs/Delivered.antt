-- What a delivery tells of the stores (BEP v1, 'Response', field 'code').
use Rattle.std.specs.Prelude.{◌≡◌, ◌⊎◌, ℕ, Option, Some, None, Result, Ok, Err}
use Rattle.bep_machine.specs.declared.message.Code.{Code}
use Rattle.bep_machine.specs.declared.message.Code.TheVariants.{Generic}
use Rattle.bep_machine.specs.declared.message.Message.{Message}
use Rattle.bep_machine.specs.declared.message.Message.TheVariants as messages
use Rattle.bep_machine.specs.declared.moved.Moved.{Moved}
use Rattle.bep_peer.specs.declared.error.PeerError.{PeerError}
use Rattle.bep_peer.specs.declared.error.PeerError.TheVariants.{Memory}
use Rattle.bep_peer.specs.declared.trace.Trace.{Trace}

-- which call of a store failed, where a response has this code: the first, which is the only one
abbrev pub failure_of : Code → Option ℕ
failure_of Generic = Some 1
failure_of code = None

-- which call of a store failed, by what was sent: a response with code `Generic` says that the only one did
abbrev pub failure_sent : Option (Message × Message) → Option ℕ
failure_sent (Some (messages.Response response, again)) = failure_of response.code
failure_sent put = None

-- A failed read is told exactly where it is answered. (Where memory is wanting for that answer, it is told all the same.)
abbrev pub TellsRead : Trace → Result Moved PeerError → Type 0
TellsRead trace (Ok moved) = trace.failed ≡ failure_sent trace.put
TellsRead trace (Err Memory) = (trace.failed ≡ None) ⊎ (trace.failed ≡ Some 1)
TellsRead trace (Err error) = trace.failed ≡ None
