use Rattle.bep_history.proofs.SeatMoves.{splits}
use Rattle.bep_history.proofs.history.History.split.Goals as goal

pub split_seat-requires : goal.split_seat-requires
split_seat-requires c = (c.requires, c.args.self.now.one_word, splits _ _ _)

pub returns-clause-seat : goal.returns-clause-seat
returns-clause-seat c = (c.split_seat.ensures.0, c.split_seat.ensures.2)

pub returns-clause-first : goal.returns-clause-first
returns-clause-first c = (c.split_seat.ensures.3, c.split_seat.ensures.4)
