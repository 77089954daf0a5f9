-- Whether the slots of an object were filled.
use Rattle.std.specs.Prelude.{◌≡◌, ℕ, Bool, true, false, List, Option}
use Rattle.serde_json.specs.Data.{Data}
use Rattle.serde_json.specs.Find.{get}
use Rattle.bep_tree.specs.Names.{has_only}

-- the slots keep what is told of the members of an object that has no others; they weren't filled where it has others, or is
-- no object
abbrev pub AreFilled : {S : Type 0} → List (List ℕ) → ((List ℕ → Option Data) → S) → Bool → S → Data → Type 0
AreFilled names known true slots d = (has_only names d ≡ true) × (slots ≡ known (λ name. get name d))
AreFilled names known false slots d = has_only names d ≡ false
