-- JSON of an explanation that is written part by part.
use Rattle.std.specs.Prelude.{◌≡◌, ◌++◌, List, [], ◌∷◌, Bool, true, false, map}
use Rattle.json.specs.Written.{Written}
use Rattle.serde_json.specs.Data.{Data}
use Rattle.serde_json.specs.View.{items_of}
use Rattle.bep_audit.specs.Loose.{Loosening}
use Rattle.bep_audit.specs.Walk.{Failure}
use Rattle.bep_json.specs.Added.{Adds, AddsItems}
use Rattle.bep_explain.specs.Annotated.{Annotated, explanation_tree, failure_tree, failures_in}
use Rattle.bep_explain.specs.FirmTold.{LooseAnnotated, firm_explanation_tree, loose_tree, loosenings_in}

-- some value was written
abbrev pub AddsSome : Written → Written → Type 0
AddsSome old new = (d : Data) × Adds d old new

-- these failures, each with something that is said of it, stand in a list before the items that come next
abbrev pub AddsFailures : List Failure → Written → Written → Type 0
AddsFailures found old new =
    (end : Written) (next : List Data) → AddsItems (items_of next) new end →
    (told : List Annotated) × (failures_in told ≡ found) × AddsItems (items_of (map failure_tree told ++ next)) old end

-- the same of what keeps a settled cut from being firm
abbrev pub AddsLoose : List Loosening → Written → Written → Type 0
AddsLoose found old new =
    (end : Written) (next : List Data) → AddsItems (items_of next) new end →
    (told : List LooseAnnotated) × (loosenings_in told ≡ found) × AddsItems (items_of (map loose_tree told ++ next)) old end

-- the explanation of these failures, each with something that is said of it, was written
abbrev pub AddsExplanation : List Failure → Written → Written → Type 0
AddsExplanation found old new = (told : List Annotated) × (failures_in told ≡ found) × Adds (explanation_tree told) old new

-- the same with what keeps a settled cut from being firm
abbrev pub AddsFirmExplanation : List Failure → List Loosening → Written → Written → Type 0
AddsFirmExplanation found loose old new =
    (told : List Annotated) × (more : List LooseAnnotated) × (failures_in told ≡ found) × (loosenings_in more ≡ loose) × Adds (firm_explanation_tree told more) old new

-- whether nothing fails
abbrev pub no_failure : List Failure → Bool
no_failure [] = true
no_failure (one ∷ more) = false

-- whether nothing keeps a settled cut from being firm
abbrev pub no_loose : List Loosening → Bool
no_loose [] = true
no_loose (one ∷ more) = false
