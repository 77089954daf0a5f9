use Rattle.bep_words.proofs.ModeFacts.{asked_mode}
use Rattle.bep_words.proofs.mode.faultless_words_ask.Goals as goal

pub returns : goal.returns
returns c = asked_mode
