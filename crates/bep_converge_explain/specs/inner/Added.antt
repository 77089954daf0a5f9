-- Lines and JSON that are written one after another.
use Rattle.std.specs.Prelude.{◌≡◌, ◌++◌, ℕ, List, [], ◌∷◌, Bool, true, false, map}
use Rattle.std.specs.List.{flat_map}
use Rattle.json.specs.Written.{Written}
use Rattle.serde_json.specs.Data.{Data}
use Rattle.serde_json.specs.View.{items_of}
use Rattle.bep_json.specs.Added.{Adds, AddsItems}
use Rattle.bep_converge_check.specs.Hindrance.{Hinder}
use Rattle.bep_converge_explain.specs.Told.{HinderAnnotated, HinderTold, converge_explanation_tree, hinder_text, hinder_tree, hinders_in, hinders_of}

-- the lines of these, each with something that is said of it, stand behind what stood there
abbrev pub AddsHinderLines : List Hinder → List ℕ → List ℕ → Type 0
AddsHinderLines found old new = (told : List HinderTold) × (hinders_of told ≡ found) × (new ≡ old ++ flat_map hinder_text told)

-- these, each with something that is said of it, stand in a list before the items that come next
abbrev pub AddsHinders : List Hinder → Written → Written → Type 0
AddsHinders found old new =
    (end : Written) (next : List Data) → AddsItems (items_of next) new end →
    (told : List HinderAnnotated) × (hinders_in told ≡ found) × AddsItems (items_of (map hinder_tree told ++ next)) old end

-- the explanation of these, each with something that is said of it, was written
abbrev pub AddsConvergeExplanation : List Hinder → Written → Written → Type 0
AddsConvergeExplanation found old new = (told : List HinderAnnotated) × (hinders_in told ≡ found) × Adds (converge_explanation_tree told) old new

-- whether nothing keeps the cut from converging
abbrev pub no_hinder : List Hinder → Bool
no_hinder [] = true
no_hinder (one ∷ more) = false
