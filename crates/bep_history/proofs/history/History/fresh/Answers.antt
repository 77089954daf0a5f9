use Rattle.bep_history.proofs.Moves.{enters}
use Rattle.bep_history.proofs.history.History.fresh.Goals as goal

pub load_new_seat-requires : goal.load_new_seat-requires
load_new_seat-requires c = (c.args.self.now.one_word, enters _ _)

pub returns : goal.returns
returns c = let e = c.load_new_seat.ensures in (e.0, λ i. (e.2 i, e.1 i))
