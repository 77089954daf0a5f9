use Rattle.bep_history.proofs.Moves.{begins}
use Rattle.bep_history.proofs.history.History.begin.Goals as goal

pub of_words-requires : goal.of_words-requires
of_words-requires c = begins _ c.requires
