-- What is told of a value that a walk along a document's tokens comes to, and of the members of an object.
use Rattle.std.specs.Prelude.{◌≡◌, ◌⊎◌, ℕ, Bool, true, false, List, [], ◌∷◌, ◌++◌, Option, None, Some, Result, Ok, Err, if◌then◌else◌, option_map}
use Rattle.std.specs.Bool.{MatchBool}
use Rattle.std.specs.Str.{bytes_eq}
use Rattle.json.specs.Token.{Token}
use Rattle.json.specs.declared.value.Value.{Value}
use Rattle.serde_json.specs.Data.{Data, array, object, Items, Members}
use Rattle.serde_json.specs.Find.{get}
use Rattle.bep_tree.specs.Names.{is_among, has_only}
use Rattle.bep_tree.specs.View.{view}
use Rattle.bep_tree.specs.Walk.{Stands, Reaches, IsLeaf}
use Rattle.bep_tree.specs.declared.walk.WalkError.{WalkError}
use Rattle.bep_json.specs.declared.told.Misread.{Misread}
use Rattle.bep_json.specs.declared.told.Misread.TheVariants.{Shape, Range}

-- the thing; or that its value has another shape, or else that something in it is out of range
abbrev pub judged : {T : Type 0} → Bool → Option T → Result T Misread
judged false read = Err Shape
judged true None = Err Range
judged true (Some thing) = Ok thing

-- the value is a list or an object
abbrev pub HasParts : Data → Type 0
HasParts d = ((ds : Items) × (d ≡ array ds)) ⊎ ((ms : Members) × (d ≡ object ms))

-- the value is this leaf; or it is no leaf, but a list or an object
abbrev pub EntersLeaf : {A : Type 0} → Option (Value A) → Data → Type 0
EntersLeaf (Some leaf) d = (view leaf ≡ d) × IsLeaf d
EntersLeaf None d = HasParts d

-- the value that comes next was judged, and was passed
abbrev pub Takes : {T : Type 0} → (Data → Bool) → (Data → Option T) → ℕ → List Token → Result (Result T Misread) WalkError → List Token → Type 0
Takes shape reads depth old result new = (d : Data) (rest : List Token) → Stands depth old d rest → Reaches result (λ told. (told ≡ judged (shape d) (reads d)) × (new ≡ rest))

-- why a value says no thing, if it says none
abbrev pub misread_of : {T : Type 0} → Result T Misread → Option Misread
misread_of (Ok thing) = None
misread_of (Err misread) = Some misread

-- these things, and the one that is told, if one is
abbrev pub with_told : {T : Type 0} → List T → Result T Misread → List T
with_told things (Ok thing) = things ++ thing ∷ []
with_told things (Err misread) = things

-- the value that comes next was judged, and was passed; the thing that it says was put behind these
abbrev pub TakesOnto : {T : Type 0} → (Data → Bool) → (Data → Option T) → ℕ → List T → List Token → Result (Option Misread) WalkError → List T → List Token → Type 0
TakesOnto shape reads depth things old result all new =
    (d : Data) (rest : List Token) → Stands depth old d rest
    → Reaches result (λ misread. (misread ≡ misread_of (judged (shape d) (reads d))) × (all ≡ with_told things (judged (shape d) (reads d))) × (new ≡ rest))

-- what stands at a name, once this value stands at that one
abbrev pub with_member : List ℕ → Data → (List ℕ → Option Data) → List ℕ → Option Data
with_member key d look name = if bytes_eq key name then Some d else look name

-- what is told of the value at a name, if one is there
abbrev pub slot : {T : Type 0} → (Data → Bool) → (Data → Option T) → Option Data → Option (Result T Misread)
slot shape reads found = option_map (λ d. judged (shape d) (reads d)) found

-- a member that the slots of an object know was taken, and they keep what is told of it
abbrev pub Known : {S : Type 0} → List (List ℕ) → ((List ℕ → Option Data) → S) → List ℕ → Data → (List ℕ → Option Data) → S → List Token → List Token → Type 0
Known names known key d look new after rest = (is_among key names ≡ true) × (new ≡ known (with_member key d look)) × (after ≡ rest)

-- the slots of an object keep what is told of each member that they know; of a member of another name nothing is taken
abbrev pub TakesMember : {S : Type 0} → List (List ℕ) → ((List ℕ → Option Data) → S) → ℕ → List ℕ → S → List Token → Result Bool WalkError → S → List Token → Type 0
TakesMember names known depth key old before result new after =
    (look : List ℕ → Option Data) (d : Data) (rest : List Token) → old ≡ known look → Stands depth before d rest
    → Reaches result (λ taken. MatchBool taken (Known names known key d look new after rest) ((is_among key names ≡ false) × (after ≡ before)))

-- what is told of the members of an object that has no others; none where it has others, or is no object
abbrev pub Fills : {S : Type 0} → List (List ℕ) → ((List ℕ → Option Data) → S) → Option S → Data → Type 0
Fills names known (Some slots) d = (has_only names d ≡ true) × (slots ≡ known (λ name. get name d))
Fills names known None d = has_only names d ≡ false

-- a member that must be there
abbrev pub due : {T : Type 0} → Option (Result T Misread) → Result T Misread
due None = Err Shape
due (Some told) = told

-- a member that may be left out, or what stands for it then
abbrev pub due_or : {T : Type 0} → T → Option (Result T Misread) → Result T Misread
due_or default None = Ok default
due_or default (Some told) = told

-- a member that must be there in its shape; what it says isn't kept, and may be out of range
abbrev pub noted : {T : Type 0} → Option (Result T Misread) → Result Bool Misread
noted None = Err Shape
noted (Some (Ok thing)) = Ok true
noted (Some (Err Range)) = Ok true
noted (Some (Err Shape)) = Err Shape

-- both things; or what is told of one of them, of another shape before out of range
abbrev pub both : {A B : Type 0} → Result A Misread → Result B Misread → Result (A × B) Misread
both (Ok a) (Ok b) = Ok (a, b)
both (Ok a) (Err misread) = Err misread
both (Err Shape) b = Err Shape
both (Err Range) (Err Shape) = Err Shape
both (Err Range) (Err Range) = Err Range
both (Err Range) (Ok b) = Err Range

-- the thing that is made of these, where they are told
abbrev pub told_as : {A B : Type 0} → (A → B) → Result A Misread → Result B Misread
told_as make (Ok things) = Ok (make things)
told_as make (Err misread) = Err misread
