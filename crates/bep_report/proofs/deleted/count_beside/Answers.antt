use Rattle.std.proofs.Common.{arith, subst, sym}
use Rattle.bep_report.proofs.StoredFacts.{AreStored, entries_stored, after_next}
use Rattle.bep_report.proofs.deleted.count_beside.Goals as goal

pub loop-name-init : goal.loop-name-init
loop-name-init c =
    let all = subst (AreStored c.args.shares.now) (sym c.iter-rest.ensures) (entries_stored c.args.shares.now c.args.store.now c.requires) in
    let both = after_next c.args.shares.now _ _ _ all c.next-next.ensures.steps in
    record { counted = omega arith; few = omega arith; next = both.0; rest = both.1 }
