-- The explanation where firm is asked for: all that fails, and then all that keeps a settled cut from being firm, each with
-- what is said of it (this project's profile).
use Rattle.std.specs.Prelude.{◌++◌, ◌&&◌, ℕ, List, [], ◌∷◌, Bool, true, false, map, codes}
use Rattle.std.specs.List.{flat_map}
use Rattle.serde_json.specs.Data.{Data, boolean, object, no_members, member}
use Rattle.bep_json.specs.Written.{list_of}
use Rattle.bep_model.specs.FirmVerdict.{Firm}
use Rattle.bep_audit.specs.Loose.{Loosening}
use Rattle.bep_lines.specs.Lines.{firm_verdict_line, firm_word_of, reason_line}
use Rattle.bep_explain.specs.Annotated.{Annotated, failure_tree, is_none, reason_tree}
use Rattle.bep_explain.specs.Told.{Told, detail_line, told_text}

-- one of the four further reasons at a place, and what is said of it
pub record LooseTold : Type 0 where
  pub loosening : Loosening
  pub details : List (List ℕ)

-- the reasons and places alone
abbrev pub loosenings_of : List LooseTold → List Loosening
loosenings_of told = map (λ one. one.loosening) told

-- the line of one of them, and the lines of its details
abbrev pub loose_text : LooseTold → List ℕ
loose_text one =
    let place = one.loosening.place in
    reason_line (firm_word_of one.loosening.reason) place.folder place.name place.device ++ flat_map detail_line one.details

-- the text of all that fails and of all of these, `firm` alone where there is neither
abbrev pub firm_explanation_text : List Told → List LooseTold → List ℕ
firm_explanation_text [] [] = firm_verdict_line Firm
firm_explanation_text [] (one ∷ more) = flat_map loose_text (one ∷ more)
firm_explanation_text (one ∷ more) loose = flat_map told_text (one ∷ more) ++ flat_map loose_text loose

-- ---- the same as JSON

-- one of the four further reasons at a place, and the tree of what is said of it
pub record LooseAnnotated : Type 0 where
  pub loosening : Loosening
  pub details : Data

-- the reasons and places alone
abbrev pub loosenings_in : List LooseAnnotated → List Loosening
loosenings_in told = map (λ one. one.loosening) told

-- the tree of one of them
abbrev pub loose_tree : LooseAnnotated → Data
loose_tree one = reason_tree (firm_word_of one.loosening.reason) one.loosening.place one.details

-- whether there is none of them
abbrev pub is_tight : List LooseAnnotated → Bool
is_tight [] = true
is_tight (one ∷ more) = false

-- the tree of all that fails and of all of these
unfoldable pub firm_explanation_tree : List Annotated → List LooseAnnotated → Data
firm_explanation_tree told loose =
    object
    (member (codes "failures") (list_of (map failure_tree told ++ map loose_tree loose))
    (member (codes "firm") (boolean (is_none told && is_tight loose))
    (member (codes "settled") (boolean (is_none told)) no_members)))
