-- What is told of the items of a step's list.
use Rattle.std.specs.Prelude.{◌≡◌, ℕ, Bool, List, Option, None, Some, Result, if◌then◌else◌}
use Rattle.json.specs.Token.{Token}
use Rattle.serde_json.specs.Data.{Data, array, Items, item}
use Rattle.bep_tree.specs.Walk.{StandItems, Reaches}
use Rattle.bep_tree.specs.declared.walk.WalkError.{WalkError}
use Rattle.bep_json.specs.declared.told.Misread.{Misread}
use Rattle.bep_json.specs.declared.version.DocVersion.{DocVersion}
use Rattle.bep_json.specs.Taking.{judged}
use Rattle.bep_scenario.specs.declared.parts.StepParts.{StepParts}
use Rattle.bep_scenario.specs.declared.words.Word.{Word}
use Rattle.bep_scenario.specs.Items.{has_items}
use Rattle.bep_scenario.specs.Steps.{has_word}

-- the word, if documents of this version have it
abbrev pub known : DocVersion → Option Word → Option Word
known version None = None
known version (Some word) = if has_word version word then Some word else None

-- the items behind the first one were judged, and the list was passed
abbrev pub TakesBehind : List (Data → Bool) → (Data → Option StepParts) → ℕ → List Token → Result (Result StepParts Misread) WalkError → List Token → Type 0
TakesBehind shapes reads depth old result new =
    (first : Data) (ds : Items) (rest : List Token) → StandItems depth old ds rest
    → Reaches result (λ told. (told ≡ judged (has_items 1 shapes (array (item first ds))) (reads (array (item first ds)))) × (new ≡ rest))
