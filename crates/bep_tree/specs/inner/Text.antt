-- The value of `json` in a text.
use Rattle.std.specs.Prelude.{◌≡◌, ℕ, List, Option, Some, None, Result, Ok, Err, option_and_then, ⊤}
use Rattle.json.specs.Json as json
use Rattle.json.specs.Lex.{tokens}
use Rattle.json.specs.Token.{Token}
use Rattle.json.specs.Value.{value_view}
use Rattle.json.specs.declared.value.Value.{Value}
use Rattle.serde_json.specs.Read.{max_depth}
use Rattle.bep_tree.specs.declared.error.TreeError.{TreeError}
use Rattle.bep_tree.specs.declared.error.TreeError.TheVariants.{NotJson, Memory}

-- the one value that these tokens are, if it nests no deeper than `serde_json` reads
abbrev pub one_value : List Token → Option json.Json
one_value ts = option_and_then (λ p. json.if_last p.0 p.1) (json.value max_depth ts)

-- the one value that a text is
abbrev pub json_of : List ℕ → Option json.Json
json_of text = one_value (tokens text)

-- there is no value, unless memory ran out
abbrev pub FailsJson : TreeError → Option json.Json → Type 0
FailsJson NotJson read = read ≡ None
FailsJson Memory read = ⊤

-- the answer is the value, or NotJson where there is none; or memory ran out
abbrev pub GivesJson : {A : Type 0} → Result (Value A) TreeError → Option json.Json → Type 0
GivesJson (Ok tree) read = read ≡ Some (value_view tree)
GivesJson (Err error) read = FailsJson error read
