use Rattle.std.proofs.Common.{option_map, sym, ap, ◌∙◌}
use Rattle.clap.proofs.WalkLemmas.{first_value-rows}
use Rattle.clap.specs.Words.{found_of, rows_of}
use Rattle.bep_words.specs.Mode.{is_set_under, is_true}
use Rattle.bep_words.proofs.mode.is_set.Goals as goal

pub returns-in-Some : goal.returns-in-Some
returns-in-Some c =
    c.is_given.ensures ∙ ap is_true (first_value-rows (found_of c.in-Some.given.now) c.args.name.now)
    ∙ ap (λ o. is_set_under c.args.name.now (option_map (λ p. rows_of (found_of p.1.now)) o)) (sym c.in-Some.is)
    ∙ ap (is_set_under c.args.name.now) c.subcommand.ensures.rows

pub returns-in-None : goal.returns-in-None
returns-in-None c =
    ap (λ o. is_set_under c.args.name.now (option_map (λ p. rows_of (found_of p.1.now)) o)) (sym c.in-None.is)
    ∙ ap (is_set_under c.args.name.now) c.subcommand.ensures.rows
