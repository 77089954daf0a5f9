use Rattle.std.proofs.Common.{◌∙◌, sym, ap}
use Rattle.std.specs.Option.{option_copied}
use Rattle.bep_machine.specs.Exchange.{sent_up_to}
use Rattle.bep_index.specs.Batch.{last_sequence}
use Rattle.bep_peer.proofs.LastSequence.{last_is}
use Rattle.bep_peer.proofs.sending.batches.sent_with.Goals as goal

pub returns-in-Some : goal.returns-in-Some
returns-in-Some c =
    let last = sym c.last.ensures.value ∙ ap option_copied c.in-Some.is in
    ap (λ e. e.sequence) c.entry.ensures.value ∙ sym (last_is (sent_up_to c.args.cursor) c.as_slice.result.now c.in-Some.last.now last) ∙ ap (last_sequence (sent_up_to c.args.cursor)) c.as_slice.ensures.value
