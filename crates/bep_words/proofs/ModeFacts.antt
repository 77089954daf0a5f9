-- What the parser finds in words at which nothing is at fault: the program's subcommand.
use Rattle.std.proofs.Common.{◌≡◌, ◌⊎◌, inl, inr, ℕ, Bool, true, false, cond, not, ◌&&◌, List, [], ◌∷◌, Option, None, Some, IfSome, fold, find, option_map, is_some, codes, refl, sym, ap, ap₂, subst, ◌∙◌, ◌||◌}
use Rattle.clap.specs.Words.{AddsArg, App, HasMatchesOf, Rule, Shape, Text, fault_of, subcommand_name_of, subcommand_rows_of, is_simple, subcommand_of, is_simple_and_free, rule_of, with_rule}
use Rattle.clap.specs.Lexer.{long_of}
use Rattle.clap.specs.Facts.{explicit_source}
use Rattle.clap.specs.Takes.{is_given}
use Rattle.std.specs.List.{list_any}
use Rattle.clap.specs.Kinds.{HasKind, Kinds, or_else, check_kinds}
use Rattle.clap.specs.declared.error.Error.{Error}
use Rattle.clap.specs.declared.error.kind.ErrorKind.TheVariants.{DisplayHelp, InvalidSubcommand}
use Rattle.clap.specs.Simple.{built, names_of, argument_words, entered}
use Rattle.clap.specs.Walk.{Held, Names, Outcome, Step, Waiting, Walk, after_flag, after_step, arg_by_index, answers_to, finished, settled, Row, long_or_other, nothing_held, plain_word, short_or_plain, subcommand_met, subcommand_or_other, to_positional, walk, walk_from, walked, walked_from, word_met, next, trailing, subcommand, value, idle, option, positional, done, waits, plain, refused}
use Rattle.clap.specs.Faults.{check_fault, defaults_fault, entered_fault, level_fault, other_fault, settle_fault, turn_fault, walk_fault, word_fault}
use Rattle.clap.specs.declared.builder.arg.Arg.{Arg}
use Rattle.clap.specs.declared.builder.command.Command.{Command}
use Rattle.clap.specs.declared.parser.matches.ArgMatches.{ArgMatches}
use Rattle.clap.specs.declared.parser.matches.ArgMatches.TheViews.{out-ArgMatches}
use Rattle.bep_words.specs.Mode.{Asks, IsCommand, ending_of, extent_of, form_of, goal_of, program, reasons_of, under_of}
use Rattle.bep_words.specs.Turns.{turns_of}
use Rattle.bep_words.specs.declared.mode.Mode.{Mode}
use Rattle.bep_words.specs.declared.mode.Mode.TheVariants.{Check, Firm, Converge, Certify, Explain, Rows, Run}

-- a command that takes a flag of its own
pub flagged : (app : App) (rule : Rule) (before made : Command) (arg : Arg) → IsCommand app before → rule_of arg ≡ rule → arg.global ≡ false → AddsArg before arg made → IsCommand (with_rule app rule) made
flagged app rule before made arg is takes local added = record {
  shape = added.shape local ∙ ap₂ with_rule is.shape takes;
  local = added.globals ∙ ap₂ (λ x y. x || y) is.local local;
}

-- a parse of the program's words in which nothing is at fault
pub no_fault : (app : App) (words : List Text) → app ≡ program → (is_simple_and_free app ≡ true → fault_of app words ≡ []) → fault_of program words ≡ []
no_fault app words is none = subst (λ a. fault_of a words ≡ []) is (none (ap is_simple_and_free is))

-- one in which something is at fault
pub fails_as : (app : App) (words : List Text) (error : Error) → app ≡ program → (is_simple_and_free app ≡ true → HasKind (fault_of app words) error) → HasKind (fault_of program words) error
fails_as app words error is fails = subst (λ a. HasKind (fault_of a words) error) is (fails (ap is_simple_and_free is))

first_none : (one other : Kinds) → or_else one other ≡ [] → one ≡ []
first_none [] other e = refl
first_none (x ∷ xs) other e = e

second_none : (one other : Kinds) → or_else one other ≡ [] → other ≡ []
second_none [] other e = e
second_none (x ∷ xs) other e = absurd cc

-- ---- the subcommand that a word is

-- the subcommand that a step is, if it is one
abbrev named : Step → Option Text
named (subcommand name) = Some name
named _ = None

plain_names_none : (rules : List Rule) (waiting : Waiting) (word : Text) (h : Held) → named (plain_word rules waiting word h).1 ≡ None
plain_names_none rules (option id) word h = refl
plain_names_none rules idle word h = refl
plain_names_none rules positional word h = refl

flag_names_none : (rules : List Rule) (waiting : Waiting) (word : Text) (h : Held) (outcome : Outcome) → named (after_flag rules waiting word h outcome).1 ≡ None
flag_names_none rules waiting word h done = refl
flag_names_none rules waiting word h (waits id) = refl
flag_names_none rules waiting word h plain = plain_names_none rules waiting word h
flag_names_none rules waiting word h refused = plain_names_none rules waiting word h

short_names_none : (rules : List Rule) (waiting : Waiting) (word : Text) (short : Option Text) (h : Held) → named (short_or_plain rules waiting word short h).1 ≡ None
short_names_none rules waiting word (Some flags) h = flag_names_none rules waiting word _ _
short_names_none rules waiting word None h = plain_names_none rules waiting word h

long_names_none : (rules : List Rule) (waiting : Waiting) (word : Text) (long : Option (Text × Option Text)) (h : Held) → named (long_or_other rules waiting word long h).1 ≡ None
long_names_none rules waiting word (Some p) h = flag_names_none rules waiting word _ _
long_names_none rules waiting word None h = short_names_none rules waiting word _ h

-- ---- the subcommand at which a walk stops

module _ (s : Shape) (names : Names) (Own : Text → Type 0) where
  -- a name of the caller's own, or `help`
  abbrev IsAmong : Text → Type 0
  IsAmong name = Own name ⊎ (name ≡ codes "help")

  -- each subcommand is the caller's own or `help`, at which there is a fault
  record HasOnly : Type 0 where
    helps : s.disable_help_subcommand ≡ false
    known : (word : Text) → IfSome (option_map (λ n. n.0) (find (answers_to word) names)) IsAmong

  -- a walk that stopped did so at the caller's own subcommand
  abbrev StopsAtOwn : Option (Text × List Text) → Type 0
  StopsAtOwn stopped = IfSome stopped (λ p. Own p.0)

  is_own : HasOnly → (name word : Text) (h : Held) → IsAmong name → other_fault s (Some name) word h ≡ [] → Own name
  is_own only name word h (inl own) none = own
  is_own only name word h (inr help) none =
      let at_help : other_fault s (Some (codes "help")) word h ≡ [] = subst (λ n. other_fault s (Some n) word h ≡ []) help none in
      let told : DisplayHelp ∷ InvalidSubcommand ∷ [] ≡ [] = sym (ap (λ b. cond (not b) (DisplayHelp ∷ InvalidSubcommand ∷ []) []) only.helps) ∙ at_help in
      absurd cc

  met_is_among : HasOnly → (waiting : Waiting) (word : Text) → IfSome (subcommand_met names waiting word) IsAmong
  met_is_among only idle word = only.known word
  met_is_among only (option id) word = tt
  met_is_among only positional word = tt

  dashes_name_none : (dashes : Bool) (position : ℕ) (other : Held × Step) (h : Held) → named other.1 ≡ None → named (cond dashes (h, trailing position) other).1 ≡ None
  dashes_name_none true position other h none = refl
  dashes_name_none false position other h none = none

  word_is_own : HasOnly → (met : Option Text) (waiting : Waiting) (position : ℕ) (word : Text) (h : Held) → IfSome met IsAmong → other_fault s met word h ≡ []
      → IfSome (named (subcommand_or_other s.rules met waiting position word h).1) Own
  word_is_own only (Some name) waiting position word h among none = is_own only name word h among none
  word_is_own only None waiting position word h among none =
      subst (λ o. IfSome o Own) (sym (dashes_name_none _ position _ h (long_names_none s.rules waiting word (long_of word) h))) tt

  met_is_own : HasOnly → (is_trailing : Bool) (waiting : Waiting) (position : ℕ) (word : Text) (h : Held) → word_fault s names is_trailing waiting word h ≡ []
      → IfSome (named (word_met s.rules names is_trailing waiting position word h).1) Own
  met_is_own only true waiting position word h none = tt
  met_is_own only false waiting position word h none = word_is_own only (subcommand_met names waiting word) waiting position word h (met_is_among only waiting word) none

  positional_is_own : (found : Option Rule) (word : Text) (w : Walk) (h : Held) → StopsAtOwn w.stopped → StopsAtOwn (to_positional s.rules found word w h).stopped
  positional_is_own None word w h before = before
  positional_is_own (Some rule) word w h before = tt

  after_is_own : (word : Text) (w : Walk) (h : Held) (step : Step) → StopsAtOwn w.stopped → IfSome (named step) Own → StopsAtOwn (after_step s.rules word w h step).stopped
  after_is_own word w h (next waiting) before is = before
  after_is_own word w h (trailing position) before is = before
  after_is_own word w h (subcommand name) before is = is
  after_is_own word w h value before is = positional_is_own (arg_by_index s.rules w.position) word w h before

  from_is_own : HasOnly → (stopped : Option (Text × List Text)) (w : Walk) (word : Text) (later : Kinds) → StopsAtOwn stopped → StopsAtOwn w.stopped
      → cond (is_some stopped) [] (or_else (word_fault s names w.is_trailing w.waiting word w.held) later) ≡ [] → StopsAtOwn (walked_from s.rules names stopped w word).stopped
  from_is_own only (Some p) w word later is before none = is
  from_is_own only None w word later is before none =
      after_is_own word w _ _ before (met_is_own only w.is_trailing w.waiting w.position word w.held (first_none _ _ none))

  walked_is_own : HasOnly → (w : Walk) (word : Text) → StopsAtOwn w.stopped → turn_fault s names w word ≡ [] → StopsAtOwn (walked s.rules names w word).stopped
  unfolding walked
  walked_is_own only w word before none = from_is_own only w.stopped w word _ before before none

  walk_is_own : HasOnly → (w : Walk) (words : List Text) → StopsAtOwn w.stopped → walk_fault s names w words ≡ [] → StopsAtOwn (fold (walked s.rules names) w words).stopped
  unfolding walk_fault
  walk_is_own only w [] before none = before
  walk_is_own only w (word ∷ rest) before none =
      walk_is_own only (walked s.rules names w word) rest (walked_is_own only w word before (first_none _ _ none)) (second_none _ _ none)

-- ---- the checks at the end of a parse

all_none : (a b c d e : Kinds) → or_else a (or_else b (or_else c (or_else d e))) ≡ [] → (a ≡ []) × (e ≡ [])
all_none a b c d e none = (first_none a _ none, second_none d e (second_none c _ (second_none b _ (second_none a _ none))))

is_missed : (wants_help wants_one wants_argument : Bool) → wants_one ≡ true → check_kinds wants_help wants_one wants_argument ≡ [] → ⊥
is_missed true wants_one wants_argument wanted none = cc
is_missed false true wants_argument wanted none = cc
is_missed false false wants_argument wanted none = cc

-- a subcommand that is required is there
is_there : (s : Shape) (rows : List Row) (has : Bool) → s.subcommand_required ≡ true → check_fault s rows has ≡ [] → has ≡ true
is_there s rows true required none = refl
is_there s rows false required none = absurd (is_missed
    (s.arg_required_else_help && not (list_any (λ r. explicit_source r.source) rows))
    s.subcommand_required
    (not (s.subcommand_negates_reqs && false) && list_any (λ a. a.required && not (is_given a.id rows)) s.rules)
    required none)

-- a level at which nothing is at fault: nothing on the way either, and its subcommand is there
level_none : (s : Shape) (names : Names) (h : Held) (words : List Text) (has : Bool) (below : Kinds) → s.subcommand_required ≡ true → level_fault s names h words has below ≡ []
    → (walk_fault s names (walk_from h) words ≡ []) × (has ≡ true)
level_none s names h words has below required none =
    let end = (walk s.rules names h words).held in
    let rows = finished s.rules end in
    let parts = all_none (walk_fault s names (walk_from h) words) below (settle_fault s.rules s.args_override_self end) (defaults_fault (settled s.rules end).rows s.rules) (check_fault s rows has) none in
    (parts.0, is_there s rows has required parts.1)

-- ---- the program's subcommand

-- the program's own subcommands
abbrev IsMode : Text → Type 0
IsMode name = (name ≡ codes "check") ⊎ ((name ≡ codes "firm") ⊎ ((name ≡ codes "converge") ⊎ ((name ≡ codes "certify") ⊎ ((name ≡ codes "explain") ⊎ ((name ≡ codes "rows") ⊎ (name ≡ codes "run"))))))

abbrev names_found : Bool → Bool → Bool → Bool → Bool → Bool → Bool → Bool → Option (Text × List Text)
names_found check firm converge certify explain rows run help =
    cond check (Some (codes "check", [])) (cond firm (Some (codes "firm", [])) (cond converge (Some (codes "converge", [])) (cond certify (Some (codes "certify", [])) (cond explain (Some (codes "explain", [])) (cond rows (Some (codes "rows", [])) (cond run (Some (codes "run", [])) (cond help (Some (codes "help", [])) None)))))))

known_name : (check firm converge certify explain rows run help : Bool) → IfSome (option_map (λ n. n.0) (names_found check firm converge certify explain rows run help)) (λ name. IsMode name ⊎ (name ≡ codes "help"))
known_name true firm converge certify explain rows run help = inl (inl refl)
known_name false true converge certify explain rows run help = inl (inr (inl refl))
known_name false false true certify explain rows run help = inl (inr (inr (inl refl)))
known_name false false false true explain rows run help = inl (inr (inr (inr (inl refl))))
known_name false false false false true rows run help = inl (inr (inr (inr (inr (inl refl)))))
known_name false false false false false true run help = inl (inr (inr (inr (inr (inr (inl refl))))))
known_name false false false false false false true help = inl (inr (inr (inr (inr (inr (inr refl))))))
known_name false false false false false false false true = inr refl
known_name false false false false false false false false = tt

only_modes : HasOnly (built program).top (names_of (built program)) IsMode
only_modes = record { helps = refl; known = λ word. known_name _ _ _ _ _ _ _ _ }

-- the words name one of them
abbrev pub NamesMode : Option Text → Type 0
NamesMode name = (name ≡ Some (codes "check")) ⊎ ((name ≡ Some (codes "firm")) ⊎ ((name ≡ Some (codes "converge")) ⊎ ((name ≡ Some (codes "certify")) ⊎ ((name ≡ Some (codes "explain")) ⊎ ((name ≡ Some (codes "rows")) ⊎ (name ≡ Some (codes "run")))))))

-- and no word names none
pub not_named : NamesMode None → ⊥
not_named (inl is) = absurd cc
not_named (inr (inl is)) = absurd cc
not_named (inr (inr (inl is))) = absurd cc
not_named (inr (inr (inr (inl is)))) = absurd cc
not_named (inr (inr (inr (inr (inl is))))) = absurd cc
not_named (inr (inr (inr (inr (inr (inl is)))))) = absurd cc
not_named (inr (inr (inr (inr (inr (inr is)))))) = absurd cc

entered_mode : (stop : Option (Text × List Text)) → IfSome stop (λ p. IsMode p.0) → is_some (entered (built program) stop) ≡ true
    → NamesMode (option_map (λ met. met.0) (entered (built program) stop))
entered_mode None is has = absurd cc
entered_mode (Some p) (inl is) has = inl (subst (λ name. option_map (λ met. met.0) (entered (built program) (Some (name, p.1))) ≡ Some (codes "check")) (sym is) refl)
entered_mode (Some p) (inr (inl is)) has = inr (inl (subst (λ name. option_map (λ met. met.0) (entered (built program) (Some (name, p.1))) ≡ Some (codes "firm")) (sym is) refl))
entered_mode (Some p) (inr (inr (inl is))) has = inr (inr (inl (subst (λ name. option_map (λ met. met.0) (entered (built program) (Some (name, p.1))) ≡ Some (codes "converge")) (sym is) refl)))
entered_mode (Some p) (inr (inr (inr (inl is)))) has = inr (inr (inr (inl (subst (λ name. option_map (λ met. met.0) (entered (built program) (Some (name, p.1))) ≡ Some (codes "certify")) (sym is) refl))))
entered_mode (Some p) (inr (inr (inr (inr (inl is))))) has = inr (inr (inr (inr (inl (subst (λ name. option_map (λ met. met.0) (entered (built program) (Some (name, p.1))) ≡ Some (codes "explain")) (sym is) refl)))))
entered_mode (Some p) (inr (inr (inr (inr (inr (inl is)))))) has = inr (inr (inr (inr (inr (inl (subst (λ name. option_map (λ met. met.0) (entered (built program) (Some (name, p.1))) ≡ Some (codes "rows")) (sym is) refl))))))
entered_mode (Some p) (inr (inr (inr (inr (inr (inr is)))))) has = inr (inr (inr (inr (inr (inr (subst (λ name. option_map (λ met. met.0) (entered (built program) (Some (name, p.1))) ≡ Some (codes "run")) (sym is) refl))))))

-- where nothing is at fault, the words name one of the program's subcommands
asks_mode : (words : List Text) → fault_of program words ≡ [] → NamesMode (option_map (λ met. met.0) (subcommand_of program words))
asks_mode words none =
    let app = built program in
    let given = argument_words program words in
    let stop = (walk app.top.rules (names_of app) nothing_held given).stopped in
    let level = level_none app.top (names_of app) nothing_held given (is_some (entered app stop)) (entered_fault app stop) refl none in
    entered_mode stop (walk_is_own app.top (names_of app) IsMode only_modes (walk_from nothing_held) given tt level.0) level.1

mode_named : (words : List Text) → NamesMode (option_map (λ met. met.0) (subcommand_of program words)) → (mode : Mode) × Asks words mode
mode_named words (inl is) = (Check (under_of (subcommand_of program words)), (is, refl))
mode_named words (inr (inl is)) = (Firm (under_of (subcommand_of program words)), (is, refl))
mode_named words (inr (inr (inl is))) = (Converge, is)
mode_named words (inr (inr (inr (inl is)))) = (Certify (extent_of (subcommand_of program words)), (is, refl))
mode_named words (inr (inr (inr (inr (inl is))))) = (Explain (goal_of (subcommand_of program words)) (under_of (subcommand_of program words)) (form_of (subcommand_of program words)), (is, refl, refl, refl))
mode_named words (inr (inr (inr (inr (inr (inl is)))))) = (Rows (goal_of (subcommand_of program words)) (reasons_of (subcommand_of program words)), (is, refl, refl))
mode_named words (inr (inr (inr (inr (inr (inr is)))))) = (Run (ending_of (subcommand_of program words)) (turns_of (subcommand_of program words)), (is, refl, refl))

-- so they ask for a mode
pub asked_mode : (words : List Text) → fault_of program words ≡ [] → (mode : Mode) × Asks words mode
asked_mode words none = mode_named words (asks_mode words none)

map_twice : {X Y Z : Type 0} (f : Y → Z) (g : X → Y) (o : Option X) → option_map (λ x. f (g x)) o ≡ option_map f (option_map g o)
map_twice f g None = refl
map_twice f g (Some x) = refl

-- the subcommand and its arguments that the matches tell are those that the words have
pub rows_told : (app : App) (words : List Text) (m : ArgMatches) → app ≡ program → HasMatchesOf app words m → subcommand_rows_of m ≡ subcommand_of program words
rows_told app words m is matches = (matches (ap is_simple is)).1 ∙ ap (λ a. subcommand_of a words) is

-- the subcommand that the matches tell is the one that the words name
pub name_told : (app : App) (words : List Text) (m : ArgMatches) → app ≡ program → HasMatchesOf app words m → option_map (λ met. met.0) (subcommand_of program words) ≡ subcommand_name_of m
name_told app words m is matches =
    sym (map_twice _ _ (out-ArgMatches m).subcommand ∙ ap (option_map (λ met. met.0)) (rows_told app words m is matches))

-- so it is one of the program's
pub tells_mode : (app : App) (words : List Text) (m : ArgMatches) → app ≡ program → HasMatchesOf app words m → fault_of program words ≡ [] → NamesMode (subcommand_name_of m)
tells_mode app words m is matches none = subst NamesMode (name_told app words m is matches) (asks_mode words none)
