use Rattle.bep_history.proofs.Moves.{learns_of}
use Rattle.bep_history.proofs.history.History.learn_of.Goals as goal

pub load-requires : goal.load-requires
load-requires g c = (c.requires.own, c.args.self.now.one_word, learns_of _ _ _ _ _ c.requires.objects)

pub returns-clause-seat : goal.returns-clause-seat
returns-clause-seat g c = (c.load.ensures.0, c.load.ensures.2.1)

pub returns-clause-told : goal.returns-clause-told
returns-clause-told g c = c.load.ensures.2.0
