use Rattle.std.proofs.Common.{refl}
use Rattle.bep_history.proofs.Moves.{adds}
use Rattle.bep_history.proofs.history.History.add.Goals as goal

pub compare_exchange_with-requires : goal.compare_exchange_with-requires
compare_exchange_with-requires c = (c.requires.own, c.args.self.now.one_word, adds _ _ _ _ _ c.requires.may)

pub returns : goal.returns
returns c = (c.compare_exchange_with.ensures.0, c.compare_exchange_with.ensures.2 _ refl)
