use Rattle.bep_history.proofs.SeatMoves.{joins}
use Rattle.bep_history.proofs.history.History.join.Goals as goal

pub join_seat-requires : goal.join_seat-requires
join_seat-requires c = (c.requires.own.0, c.requires.own.1, c.requires.own.2, c.args.self.now.one_word, joins _ _ _ _ _)

pub returns : goal.returns
returns c = (c.join_seat.ensures.0, c.join_seat.ensures.2)
