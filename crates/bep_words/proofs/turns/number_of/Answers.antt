use Rattle.std.proofs.Common.{ap, min, rules, ◌∙◌}
use Rattle.bep_words.specs.declared.turns.TheConstants.{MAX_TURNS}
use Rattle.bep_words.proofs.TurnsFacts.{number_read}
use Rattle.bep_words.proofs.turns.number_of.Goals as goal

pub returns : goal.returns
returns c = c.min.ensures ∙ ap (λ number. min number MAX_TURNS) (c.unwrap_or.ensures ∙ number_read c.args.text.now c.parse.result (search rules))
