use Rattle.std.proofs.Common.{◌≡◌, ◌∙◌, ◌++◌, ◌∷◌, [], ap, sym, subst}
use Rattle.bep_index.specs.Batch.{HasNo}
use Rattle.bep_index.specs.Order.{IsLater}
use Rattle.bep_index.proofs.PutFacts.{next_is_later, next_is_new, next_added}
use Rattle.bep_index.proofs.records.Records.add_copies.Goals as goal

copied : (c : goal.In_ok-copy) → c.in_ok-copy.field-0 ≡ c.entry-item.result
copied c = c.in_ok-copy.ensures

pub add-requires-clause-later : goal.add-requires-clause-later
add-requires-clause-later c =
    subst (λ e. IsLater c.loop-entry.self e) (sym (copied c))
    (subst (λ es. IsLater es c.entry-item.result) (sym c.loop-entry.invariant)
    (next_is_later c.args.records.now c.loop-entry.entry-index c.entry-item.result c.loop-entry-test.true c.entry-item.is c.requires.in_order))

pub add-requires-clause-new : goal.add-requires-clause-new
add-requires-clause-new c =
    subst (λ e. HasNo e.name c.loop-entry.self) (sym (copied c))
    (subst (HasNo c.entry-item.result.name) (sym c.loop-entry.invariant)
    (next_is_new c.args.records.now c.loop-entry.entry-index c.entry-item.result c.loop-entry-test.true c.entry-item.is c.requires.in_order))

pub loop-entry-preserved : goal.loop-entry-preserved
loop-entry-preserved c =
    c.in_ok-add.ensures.ok
    ∙ ap (λ e. c.loop-entry.self ++ e ∷ []) (c.in_ok-copy.ensures)
    ∙ ap (λ es. es ++ c.entry-item.result ∷ []) c.loop-entry.invariant
    ∙ next_added c.args.records.now c.loop-entry.entry-index c.entry-item.result c.loop-entry-test.true c.entry-item.is c.requires.in_order
