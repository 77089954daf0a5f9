-- Words on JSON trees: members by their names.
use Rattle.std.specs.Prelude.{ℕ, Bool, true, false, ◌&&◌, List, [], ◌∷◌, map, option_map, unwrap_or}
use Rattle.serde_json.specs.Data.{Data}
use Rattle.serde_json.specs.Find.{get}
use Rattle.bep_tree.specs.Names.{has_only}

-- there is a member of this name, and it has this shape
abbrev pub has_member : List ℕ → (Data → Bool) → Data → Bool
has_member name shape d = unwrap_or (option_map shape (get name d)) false

-- a member of this name, if there is one, has this shape
abbrev pub may_have_member : List ℕ → (Data → Bool) → Data → Bool
may_have_member name shape d = unwrap_or (option_map shape (get name d)) true

-- a member that must be there: its name, and what is asked of the object for it
abbrev pub due : List ℕ → (Data → Bool) → List ℕ × (Data → Bool)
due name shape = (name, has_member name shape)

-- a member that may be left out
abbrev pub may : List ℕ → (Data → Bool) → List ℕ × (Data → Bool)
may name shape = (name, may_have_member name shape)

-- the names of these members
abbrev pub names_of : List (List ℕ × (Data → Bool)) → List (List ℕ)
names_of members = map (λ known. known.0) members

-- what is asked of the object for each of these members
abbrev pub have_all : List (List ℕ × (Data → Bool)) → Data → Bool
have_all [] d = true
have_all (known ∷ []) d = known.1 d
have_all (known ∷ next ∷ more) d = known.1 d && have_all (next ∷ more) d

-- an object: each of these members of its kind, and no others
abbrev pub is_object : List (List ℕ × (Data → Bool)) → Data → Bool
is_object members d = has_only (names_of members) d && have_all members d
