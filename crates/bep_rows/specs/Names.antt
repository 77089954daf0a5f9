-- Names in rising order, and which of them were read (this project's profile).
use Rattle.std.specs.Prelude.{◌≡◌, ◌⊎◌, ⊤, true, false, List, [], ◌∷◌, Option, Some, None, if◌then◌else◌}
use Rattle.std.specs.Ordering.{is_eq}
use Rattle.std.specs.declared.cmp.Ordering.TheVariants.{Less}
use Rattle.bep_model.specs.Tables.{Tables, Folder, FileName}
use Rattle.bep_model.specs.Foreign.{IsKnown}
use Rattle.bep_model.specs.Settled.{key_cmp}
use Rattle.bep_parts.specs.Parts.{Keeps}

-- a name in a folder
abbrev pub Key : Type 0
Key = Folder × FileName

-- whether it is this name
abbrev pub is_name : Key → Keeps
is_name key folder name = is_eq (key_cmp key (folder, name))

-- whether one of two tests holds
abbrev pub either : Keeps → Keeps → Keeps
either one other folder name = if one folder name then true else other folder name

-- no name at all
abbrev pub nowhere : Keeps
nowhere folder name = false

-- whether it is one of these names
abbrev pub among : List Key → Keeps
among [] = nowhere
among (key ∷ keys) = either (among keys) (is_name key)

-- each known name is one of these
abbrev pub NamesAreAmong : Tables → List Key → Type 0
NamesAreAmong t keys = (folder : Folder) (name : FileName) → IsKnown t folder name → among keys folder name ≡ true

-- the name is above the last one, if there was one
abbrev pub IsAbove : Key → Option Key → Type 0
IsAbove key None = ⊤
IsAbove key (Some last) = key_cmp last key ≡ Less

-- the name isn't above the last one
abbrev pub IsUpTo : Option Key → Key → Type 0
IsUpTo None key = ⊥
IsUpTo (Some last) key = (last ≡ key) ⊎ (key_cmp key last ≡ Less)
