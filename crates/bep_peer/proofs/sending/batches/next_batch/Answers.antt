use Rattle.std.proofs.Common.{sym, subst, arith}
use Rattle.bep_index.specs.declared.limits.TheConstants.{MAX_RECORDS}
use Rattle.bep_index.specs.After.{IsAfter}
use Rattle.bep_peer.proofs.sending.batches.next_batch.Goals as goal

pub of-requires : goal.of-requires
of-requires c = c.in_ok-found.ensures.batch (omega arith)

pub returns : goal.returns
returns c =
    let records = c.args.index.now.records in
    subst (λ sequence. IsAfter records sequence MAX_RECORDS c.in_ok-of.field-0) c.sent_up_to.ensures
    (subst (IsAfter records c.sent_up_to.result MAX_RECORDS) (sym c.in_ok-of.ensures) c.in_ok-found.ensures.found)
