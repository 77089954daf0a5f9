use Rattle.bep_history.proofs.SeatMoves.{claims}
use Rattle.bep_history.proofs.history.History.receipt.Goals as goal

pub split_seat-requires : goal.split_seat-requires
split_seat-requires c = (c.requires, c.args.self.now.one_word, claims _ _ _)

pub returns-clause-seat : goal.returns-clause-seat
returns-clause-seat c = (c.split_seat.ensures.0, c.split_seat.ensures.2)

pub returns-clause-claims : goal.returns-clause-claims
returns-clause-claims c = (c.split_seat.ensures.3, c.split_seat.ensures.4)
