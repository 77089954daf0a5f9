-- The tree of a document's bytes.
use Rattle.std.specs.Prelude.{◌≡◌, ℕ, List, Option, Some, None, Result, Ok, Err, if◌then◌else◌, ⊤}
use Rattle.std.specs.Str.{is_utf8}
use Rattle.json.specs.declared.value.Value.{Value}
use Rattle.serde_json.specs.Data.{Data}
use Rattle.serde_json.specs.Read.{read}
use Rattle.bep_tree.specs.View.{view}
use Rattle.bep_tree.specs.declared.error.TreeError.{TreeError}
use Rattle.bep_tree.specs.declared.error.TreeError.TheVariants.{NotJson, Memory}

-- the value that `serde_json` reads in these bytes; none where they aren't UTF-8
abbrev pub tree_of : List ℕ → Option Data
tree_of bytes = if is_utf8 bytes then read bytes else None

-- there is no value, unless memory ran out
abbrev pub Fails : TreeError → Option Data → Type 0
Fails NotJson read = read ≡ None
Fails Memory read = ⊤

-- the answer is the value, or NotJson where there is none; or memory ran out
abbrev pub Gives : {A : Type 0} → Result (Value A) TreeError → Option Data → Type 0
Gives (Ok tree) read = read ≡ Some (view tree)
Gives (Err error) read = Fails error read
