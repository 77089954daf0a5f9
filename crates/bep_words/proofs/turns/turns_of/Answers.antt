use Rattle.std.proofs.Common.{option_map, sym, ap, codes, ◌∙◌}
use Rattle.clap.proofs.WalkLemmas.{first_value-rows}
use Rattle.clap.specs.Words.{found_of, rows_of}
use Rattle.bep_words.specs.Turns.{number_in, turns_under}
use Rattle.bep_words.proofs.turns.turns_of.Goals as goal

pub returns-in-Some : goal.returns-in-Some
returns-in-Some c =
    c.turns_given.ensures ∙ ap number_in (first_value-rows (found_of c.in-Some.given.now) (codes "turns"))
    ∙ ap (λ o. turns_under (option_map (λ p. rows_of (found_of p.1.now)) o)) (sym c.in-Some.is)
    ∙ ap turns_under c.subcommand.ensures.rows

pub returns-in-None : goal.returns-in-None
returns-in-None c =
    ap (λ o. turns_under (option_map (λ p. rows_of (found_of p.1.now)) o)) (sym c.in-None.is)
    ∙ ap turns_under c.subcommand.ensures.rows
