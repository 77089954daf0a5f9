-- What is claimed stands in the rows that it touches.
use Rattle.std.proofs.Common.{Contains, sym, subst}
use Rattle.bep_history.specs.Laws.{ClaimedStands}
use Rattle.bep_history.specs.Parts.{is_about}
use Rattle.bep_history.proofs.Filtered.{passes-kept}

pub claimed_stands_lem : ClaimedStands
claimed_stands_lem objects old one event told claimed stands touches =
    subst (λ es. Contains es event) (sym (told.parts one stands)) (passes-kept (is_about one.object) told.history event (told.claims event claimed) touches)
