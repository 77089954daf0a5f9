-- The text and the tree of all that keeps a cut from converging, each with what is said of it (this project's profile).
use Rattle.std.specs.Prelude.{◌++◌, ℕ, List, [], ◌∷◌, Bool, true, false, map, codes}
use Rattle.std.specs.List.{flat_map}
use Rattle.serde_json.specs.Data.{Data, boolean, object, no_members, member}
use Rattle.bep_json.specs.Written.{list_of}
use Rattle.bep_lines.specs.Lines.{reason_line}
use Rattle.bep_explain.specs.Annotated.{reason_tree}
use Rattle.bep_explain.specs.Told.{detail_line}
use Rattle.bep_converge.specs.ConvergeVerdict.{Converging}
use Rattle.bep_converge_check.specs.Hindrance.{Hinder}
use Rattle.bep_converge_answer.specs.Lines.{converge_line, converge_word_of}

-- a reason that fails at a place, and what is said of it
pub record HinderTold : Type 0 where
  pub hinder : Hinder
  pub details : List (List ℕ)

-- the reasons and places alone
abbrev pub hinders_of : List HinderTold → List Hinder
hinders_of told = map (λ one. one.hinder) told

-- the line of one of them, and the lines of its details
abbrev pub hinder_text : HinderTold → List ℕ
hinder_text one =
    let place = one.hinder.place in
    reason_line (converge_word_of one.hinder.reason) place.folder place.name place.device ++ flat_map detail_line one.details

-- the text of all of these, `converging` alone where there is none
abbrev pub converge_explanation_text : List HinderTold → List ℕ
converge_explanation_text [] = converge_line Converging
converge_explanation_text (one ∷ more) = flat_map hinder_text (one ∷ more)

-- ---- the same as JSON

-- a reason that fails at a place, and the tree of what is said of it
pub record HinderAnnotated : Type 0 where
  pub hinder : Hinder
  pub details : Data

-- the reasons and places alone
abbrev pub hinders_in : List HinderAnnotated → List Hinder
hinders_in told = map (λ one. one.hinder) told

-- the tree of one of them
abbrev pub hinder_tree : HinderAnnotated → Data
hinder_tree one = reason_tree (converge_word_of one.hinder.reason) one.hinder.place one.details

-- whether there is none of them
abbrev pub is_clear : List HinderAnnotated → Bool
is_clear [] = true
is_clear (one ∷ more) = false

-- the tree of all of these
unfoldable pub converge_explanation_tree : List HinderAnnotated → Data
converge_explanation_tree told =
    object
    (member (codes "converging") (boolean (is_clear told))
    (member (codes "failures") (list_of (map hinder_tree told)) no_members))
