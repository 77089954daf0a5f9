-- The explanation as JSON: all failures, each with a tree of what is said of it (this project's profile).
use Rattle.std.specs.Prelude.{◌≡◌, ◌≤◌, ◌++◌, ℕ, Bool, true, false, List, [], ◌∷◌, Option, Some, None, map, codes}
use Rattle.json.specs.Written.{Written}
use Rattle.serde_json.specs.Data.{Data, null, boolean, string, object, no_members, member, depth}
use Rattle.serde_json.specs.Read.{read, max_depth}
use Rattle.serde_json.specs.Written.{IsInOrder}
use Rattle.bep_json.specs.Added.{Adds}
use Rattle.bep_json.specs.Written.{whole, list_of}
use Rattle.bep_model.specs.Reasons.{Place}
use Rattle.bep_model.specs.Tables.{Device}
use Rattle.bep_audit.specs.Walk.{Failure}
use Rattle.bep_lines.specs.Lines.{word_of, newline}

-- a failure, and the tree of what is said of it
pub record Annotated : Type 0 where
  pub failure : Failure
  pub details : Data

-- the failures alone
abbrev pub failures_in : List Annotated → List Failure
failures_in told = map (λ one. one.failure) told

-- the device of a place, null where it has none
abbrev pub device_tree : Option Device → Data
device_tree None = null
device_tree (Some device) = whole device

-- the tree of a reason that fails, by its word, with its place and what is said of it
unfoldable pub reason_tree : List ℕ → Place → Data → Data
reason_tree word place details =
    object
    (member (codes "details") details
    (member (codes "device") (device_tree place.device)
    (member (codes "folder") (string place.folder)
    (member (codes "name") (string place.name)
    (member (codes "reason") (string word) no_members)))))

-- the tree of a failure
abbrev pub failure_tree : Annotated → Data
failure_tree one = reason_tree (word_of one.failure.reason) one.failure.place one.details

-- whether nothing fails
abbrev pub is_none : List Annotated → Bool
is_none [] = true
is_none (one ∷ more) = false

-- the tree of an explanation
unfoldable pub explanation_tree : List Annotated → Data
explanation_tree told =
    object
    (member (codes "failures") (list_of (map failure_tree told))
    (member (codes "settled") (boolean (is_none told)) no_members))

-- the text is this tree as JSON, with a line's end: its items and members, each once and in order, as which it reads
-- again unless it nests too deep
pub record IsJsonLine (tree : Data) (text : List ℕ) : Type 0 where
  pub json : List ℕ
  pub in_order : IsInOrder json tree
  pub reads_back : depth tree ≤ max_depth → read json ≡ Some tree
  pub line : text ≡ json ++ newline

-- ---- JSON that is written part by part

-- a reason that fails, with something that is said of it, was written
abbrev pub AddsReason : List ℕ → Place → Written → Written → Type 0
AddsReason word place old new = (details : Data) × Adds (reason_tree word place details) old new

-- where nothing stood before and this value alone was written, the text is its line
abbrev pub TellsLine : Written → List ℕ → Type 0
TellsLine out text = (d : Data) (start : Written) → start.tokens ≡ [] → Adds d start out → IsJsonLine d text
