-- What words ask the program for.
use Rattle.std.specs.Prelude.{◌≡◌, ◌≤◌, ⊤, Bool, List, [], Option, Some, None, true, false, option_map, codes, if◌then◌else◌}
use Rattle.std.specs.Str.{bytes_eq}
use Rattle.clap.specs.Words.{App, Row, Rule, Text, app_of, fault_of, first_of, new_app, new_rule, with_rule, with_subcommand, subcommand_of}
use Rattle.clap.specs.declared.builder.action.ArgAction.TheVariants.{SetTrue}
use Rattle.clap.specs.declared.builder.command.Command.{Command}
use Rattle.clap.specs.declared.builder.command.Command.TheViews.{out-Command as fields_of}
use Rattle.bep_lines.specs.declared.form.Form.{Form}
use Rattle.bep_lines.specs.declared.form.Form.TheVariants as forms
use Rattle.bep_words.specs.declared.mode.Ending.{Ending}
use Rattle.bep_words.specs.declared.mode.Ending.TheVariants.{Report, Document}
use Rattle.bep_words.specs.declared.mode.Extent.{Extent}
use Rattle.bep_words.specs.declared.mode.Extent.TheVariants.{All, Won}
use Rattle.bep_words.specs.declared.mode.Goal.{Goal}
use Rattle.bep_words.specs.declared.mode.Goal.TheVariants as goals
use Rattle.bep_words.specs.declared.mode.Mode.{Mode}
use Rattle.bep_words.specs.declared.mode.Mode.TheVariants.{Check, Firm, Converge, Certify, Explain, Rows, Run}
use Rattle.bep_words.specs.declared.mode.Reasons.{Reasons}
use Rattle.bep_words.specs.declared.mode.Reasons.TheVariants as reasons
use Rattle.bep_words.specs.declared.mode.Under.{Under}
use Rattle.bep_words.specs.declared.mode.Under.TheVariants.{Given, Winners}
use Rattle.bep_words.specs.declared.turns.TheConstants.{MAX_TURNS}
use Rattle.bep_words.specs.Turns.{turns_of, turns_option}

-- the program's own level: it has a version, and wants a subcommand
abbrev pub top_level : App
top_level =
    let new = new_app (codes "syncaudit") in
    record new { top = record new.top { has_version = true; subcommand_required = true; arg_required_else_help = true } }

-- a flag of this name, as `--json`
abbrev pub flag : Text → Rule
flag name = record (new_rule name) { long = Some name; action = Some SetTrue }

-- a subcommand of this name that takes only the flag which says under which rows a cut is audited
abbrev pub audit_app : Text → App
audit_app name = with_rule (new_app name) (flag (codes "certify"))

-- the other subcommands
abbrev pub converge_app : App
converge_app = new_app (codes "converge")

abbrev pub explain_app : App
explain_app =
    let json = with_rule (new_app (codes "explain")) (flag (codes "json")) in
    with_rule (with_rule (with_rule json (flag (codes "firm"))) (flag (codes "converge"))) (flag (codes "certify"))

abbrev pub certify_app : App
certify_app = with_rule (new_app (codes "certify")) (flag (codes "partial"))

abbrev pub rows_app : App
rows_app = with_rule (with_rule (with_rule (new_app (codes "rows")) (flag (codes "firm"))) (flag (codes "converge"))) (flag (codes "explain"))

abbrev pub run_app : App
run_app = with_rule (with_rule (new_app (codes "run")) (flag (codes "document"))) turns_option

-- what the command line of the program is
abbrev pub program : App
program =
    let check = with_subcommand top_level (audit_app (codes "check")).top in
    let firm = with_subcommand check (audit_app (codes "firm")).top in
    let converge = with_subcommand firm converge_app.top in
    let certify = with_subcommand converge certify_app.top in
    let explain = with_subcommand certify explain_app.top in
    let rows = with_subcommand explain rows_app.top in
    with_subcommand rows run_app.top

-- a command of this shape, none of whose flags its subcommands take too
pub record IsCommand (app : App) (command : Command) : Type 0 where
  pub shape : app_of command ≡ app
  pub local : (fields_of command).has_globals ≡ false

-- the name of the subcommand in the words
abbrev pub named : List Text → Option Text
named words = option_map (λ met. met.0) (subcommand_of program words)

-- whether a flag's value says that it is set
abbrev pub is_true : Option Text → Bool
is_true None = false
is_true (Some value) = bytes_eq value (codes "true")

-- whether the flag is set in a subcommand's matches
abbrev pub is_set_under : Text → Option (List Row) → Bool
is_set_under name None = false
is_set_under name (Some rows) = is_true (first_of name rows)

-- whether the flag is set in the words of the subcommand
abbrev pub is_set : Text → Option (Text × List Row) → Bool
is_set name met = is_set_under name (option_map (λ one. one.1) met)

-- the form that the subcommand in the words asks for
abbrev pub form_of : Option (Text × List Row) → Form
form_of met = if is_set (codes "json") met then forms.Json else forms.Text

-- whether the subcommand in the words asks for converging, for firm, or for neither
abbrev pub goal_of : Option (Text × List Row) → Goal
goal_of met = if is_set (codes "converge") met then goals.Converging else if is_set (codes "firm") met then goals.Firm else goals.Settled

-- under which rows the subcommand in the words asks for an audit
abbrev pub under_of : Option (Text × List Row) → Under
under_of met = if is_set (codes "certify") met then Winners else Given

-- for which names the subcommand in the words asks for rows
abbrev pub extent_of : Option (Text × List Row) → Extent
extent_of met = if is_set (codes "partial") met then Won else All

-- which of the reasons that fail at a name the subcommand in the words asks for
abbrev pub reasons_of : Option (Text × List Row) → Reasons
reasons_of met = if is_set (codes "explain") met then reasons.All else reasons.First

-- what of a scenario's end the subcommand in the words asks for
abbrev pub ending_of : Option (Text × List Row) → Ending
ending_of met = if is_set (codes "document") met then Document else Report

-- the words name the subcommand of this mode, and ask for what it says
abbrev pub Asks : List Text → Mode → Type 0
Asks words (Check under) = (named words ≡ Some (codes "check")) × (under ≡ under_of (subcommand_of program words))
Asks words (Firm under) = (named words ≡ Some (codes "firm")) × (under ≡ under_of (subcommand_of program words))
Asks words Converge = named words ≡ Some (codes "converge")
Asks words (Certify extent) = (named words ≡ Some (codes "certify")) × (extent ≡ extent_of (subcommand_of program words))
Asks words (Explain goal under form) =
    (named words ≡ Some (codes "explain"))
    × (goal ≡ goal_of (subcommand_of program words)) × (under ≡ under_of (subcommand_of program words)) × (form ≡ form_of (subcommand_of program words))
Asks words (Rows goal told) =
    (named words ≡ Some (codes "rows")) × (goal ≡ goal_of (subcommand_of program words)) × (told ≡ reasons_of (subcommand_of program words))
Asks words (Run ending turns) =
    (named words ≡ Some (codes "run")) × (ending ≡ ending_of (subcommand_of program words)) × (turns ≡ turns_of (subcommand_of program words))

-- no more turns are asked for than may be
abbrev pub MakesFewTurns : Mode → Type 0
MakesFewTurns (Check under) = ⊤
MakesFewTurns (Firm under) = ⊤
MakesFewTurns Converge = ⊤
MakesFewTurns (Certify extent) = ⊤
MakesFewTurns (Explain goal under form) = ⊤
MakesFewTurns (Rows goal told) = ⊤
MakesFewTurns (Run ending turns) = turns ≤ MAX_TURNS

-- words in which nothing is at fault ask for some mode
abbrev pub FaultlessWordsAsk : Type 0
FaultlessWordsAsk = (words : List Text) → fault_of program words ≡ [] → (mode : Mode) × Asks words mode
