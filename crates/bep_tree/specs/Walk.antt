-- Where a walk along a document's tokens stands: which value comes next, and which tokens follow it.
use Rattle.std.specs.Prelude.{◌≡◌, ℕ, List, None, Some, Result, Ok, Err, ⊤}
use Rattle.json.specs.Token.{Token}
use Rattle.json.specs.Json as json
use Rattle.serde_json.specs.Data.{Data, array, object, Items, Members, no_members}
use Rattle.serde_json.specs.Find.{as_array, as_object}
use Rattle.bep_tree.specs.View.{view, data_of, items_data, members_data}
use Rattle.bep_tree.specs.declared.walk.Entered.{Entered}
use Rattle.bep_tree.specs.declared.walk.Entered.TheVariants as entered
use Rattle.bep_tree.specs.declared.walk.WalkError.{WalkError}
use Rattle.bep_tree.specs.declared.walk.WalkError.TheVariants.{Broken, Memory}

-- the tokens begin with this value, in which lists and objects nest no deeper than the number, and then come the others
abbrev pub Stands : ℕ → List Token → Data → List Token → Type 0
Stands depth tokens d rest = (j : json.Json) × (json.value depth tokens ≡ Some (j, rest)) × (d ≡ data_of j)

-- inside a list, the tokens begin with these items and the closing bracket
abbrev pub StandItems : ℕ → List Token → Items → List Token → Type 0
StandItems depth tokens ds rest = (n : ℕ) × (js : json.Items) × (json.items (json.value depth) n tokens ≡ Some (js, rest)) × (ds ≡ items_data js)

-- inside an object, the tokens begin with members and the closing brace; put to those found before, they make these
abbrev pub StandMembers : ℕ → List Token → Members → Members → List Token → Type 0
StandMembers depth tokens found ms rest = (n : ℕ) × (js : json.Members) × (json.members (json.value depth) n tokens ≡ Some (js, rest)) × (ms ≡ members_data js found)

-- a walk along a value goes no further only where memory ran out
abbrev pub Stops : WalkError → Type 0
Stops Broken = ⊥
Stops Memory = ⊤

-- what the walk reached is as said, unless memory ran out
abbrev pub Reaches : {X : Type 0} → Result X WalkError → (X → Type 0) → Type 0
Reaches (Ok x) is = is x
Reaches (Err error) is = Stops error

-- the value is no list and no object
abbrev pub IsLeaf : Data → Type 0
IsLeaf d = (as_array d ≡ None) × (as_object d ≡ None)

-- the value begins so, and these tokens come next
abbrev pub Enters : Entered → Data → List Token → List Token → Type 0
Enters (entered.List depth) d next rest = (ds : Items) × (d ≡ array ds) × StandItems depth next ds rest
Enters (entered.Object depth) d next rest = (ms : Members) × (d ≡ object ms) × StandMembers depth next no_members ms rest
Enters (entered.Leaf tree) d next rest = (view tree ≡ d) × IsLeaf d × (next ≡ rest)
