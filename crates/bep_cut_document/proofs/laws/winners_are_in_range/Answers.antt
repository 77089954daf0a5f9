use Rattle.bep_cut_document.proofs.ShortFacts.{winners_have_room}
use Rattle.bep_cut_document.proofs.WinnersInRange.{winners_are_in_range}
use Rattle.bep_cut_document.proofs.laws.winners_are_in_range.Goals as goal

pub returns-clause-range : goal.returns-clause-range
returns-clause-range c = winners_are_in_range c.args.cut.now c.is_a_cut.ensures

pub returns-clause-room : goal.returns-clause-room
returns-clause-room c = winners_have_room c.args.cut.now
