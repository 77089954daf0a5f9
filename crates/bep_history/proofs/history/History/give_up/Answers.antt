use Rattle.bep_history.proofs.Moves.{gives_up}
use Rattle.bep_history.proofs.history.History.give_up.Goals as goal

pub load-requires : goal.load-requires
load-requires c = (c.requires, c.args.self.now.one_word, gives_up _ _ _ _)

pub returns : goal.returns
returns c = (c.load.ensures.0, c.load.ensures.2)
