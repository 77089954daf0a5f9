-- Words ask for one mode at most.
use Rattle.std.proofs.Common.{◌≡◌, ◌∙◌, List, Option, None, Some, cond, codes, sym, ap}
use Rattle.std.specs.Str.{bytes_eq}
use Rattle.clap.specs.Words.{Row, Text, subcommand_of}
use Rattle.bep_words.specs.Mode.{Asks, ending_of, extent_of, form_of, goal_of, named, program, reasons_of, under_of}
use Rattle.bep_words.specs.Turns.{turns_of}
use Rattle.bep_words.specs.declared.mode.Mode.{Mode}
use Rattle.bep_words.specs.declared.mode.Mode.TheVariants.{Check, Firm, Converge, Certify, Explain, Rows, Run}

-- the mode of a subcommand of this name, and what it asks for
abbrev mode_at : Option (Text × List Row) → Option Text → Option Mode
mode_at met None = None
mode_at met (Some name) =
    cond (bytes_eq name (codes "check")) (Some (Check (under_of met)))
    (cond (bytes_eq name (codes "firm")) (Some (Firm (under_of met)))
    (cond (bytes_eq name (codes "converge")) (Some Converge)
    (cond (bytes_eq name (codes "certify")) (Some (Certify (extent_of met)))
    (cond (bytes_eq name (codes "explain")) (Some (Explain (goal_of met) (under_of met) (form_of met)))
    (cond (bytes_eq name (codes "rows")) (Some (Rows (goal_of met) (reasons_of met)))
    (cond (bytes_eq name (codes "run")) (Some (Run (ending_of met) (turns_of met))) None))))))

is_mode_at : (words : List Text) (mode : Mode) → Asks words mode → mode_at (subcommand_of program words) (named words) ≡ Some mode
is_mode_at words (Check under) asks = ap (mode_at (subcommand_of program words)) asks.0 ∙ (λ i. Some (Check (sym asks.1 i)))
is_mode_at words (Firm under) asks = ap (mode_at (subcommand_of program words)) asks.0 ∙ (λ i. Some (Firm (sym asks.1 i)))
is_mode_at words Converge asks = ap (mode_at (subcommand_of program words)) asks
is_mode_at words (Certify extent) asks = ap (mode_at (subcommand_of program words)) asks.0 ∙ (λ i. Some (Certify (sym asks.1 i)))
is_mode_at words (Explain goal under form) asks = ap (mode_at (subcommand_of program words)) asks.0 ∙ (λ i. Some (Explain (sym asks.1 i) (sym asks.2 i) (sym asks.3 i)))
is_mode_at words (Rows goal told) asks = ap (mode_at (subcommand_of program words)) asks.0 ∙ (λ i. Some (Rows (sym asks.1 i) (sym asks.2 i)))
is_mode_at words (Run ending turns) asks = ap (mode_at (subcommand_of program words)) asks.0 ∙ (λ i. Some (Run (sym asks.1 i) (sym asks.2 i)))

pub asks_one : (words : List Text) (one other : Mode) → Asks words one → Asks words other → one ≡ other
asks_one words one other asks also =
    let same : Some one ≡ Some other = sym (is_mode_at words one asks) ∙ is_mode_at words other also in
    cc
