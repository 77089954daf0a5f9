use Rattle.std.proofs.Common.{◌∙◌, subst}
use Rattle.bep_history.specs.View.{IsAbove}
use Rattle.bep_history.proofs.Moves.{drawn_above, draws}
use Rattle.bep_history.proofs.history.History.draw.Goals as goal

pub compare_exchange-found-requires : goal.compare_exchange-found-requires
compare_exchange-found-requires g c = (c.loop.invariant.0 ∙ c.requires, c.args.self.now.one_word, draws _ _ _ _ _)

pub returns-then-found-next-clause-above : goal.returns-then-found-next-clause-above
returns-then-found-next-clause-above g c =
    let found = c.compare_exchange-found.result in
    let told = drawn_above c.args.self.now.table.shared.key.items c.peek-next.result found c.loop.seat.me c.compare_exchange-found.new.seat.me c.if-found-next.true c.compare_exchange-found.ensures.2 in
    (told.0, subst (λ me. IsAbove found me.0) c.loop.invariant.1 told.1)
