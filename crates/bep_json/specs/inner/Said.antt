-- What is said by a member that may be left out, and what is told of things in which something may be out of range.
use Rattle.std.specs.Prelude.{Bool, true, false, Option, None, Some, Result, Ok, Err, option_map}
use Rattle.serde_json.specs.Data.{Data}
use Rattle.bep_tree.specs.declared.walk.WalkError.{WalkError}
use Rattle.bep_tree.specs.declared.walk.WalkError.TheVariants as walk
use Rattle.bep_json.specs.declared.error.ReadError.{ReadError}
use Rattle.bep_json.specs.declared.error.ReadError.TheVariants as errors
use Rattle.bep_json.specs.declared.told.Misread.{Misread}
use Rattle.bep_json.specs.declared.told.Misread.TheVariants.{Range}

-- the thing that is told
abbrev pub thing_of : {T : Type 0} → Result T Misread → Option T
thing_of (Ok thing) = Some thing
thing_of (Err misread) = None

-- the thing that the member says, if it is there
abbrev pub said : {T : Type 0} → Option (Result T Misread) → Option T
said None = None
said (Some told) = thing_of told

-- the thing that the member says, or this one where it isn't there
abbrev pub said_or : {T : Type 0} → T → Option (Result T Misread) → Option T
said_or default None = Some default
said_or default (Some told) = thing_of told

-- whether the member is there, and what it says
abbrev pub optional : {T : Type 0} → Option (Result T Misread) → Result (Option T) Misread
optional None = Ok None
optional (Some (Ok thing)) = Ok (Some thing)
optional (Some (Err misread)) = Err misread

-- the same, of what stands there
abbrev pub read_optional : {T : Type 0} → (Data → Option T) → Option Data → Option (Option T)
read_optional reads None = Some None
read_optional reads (Some d) = option_map Some (reads d)

-- the thing, or that something in it is out of range
abbrev pub if_so : {T : Type 0} → Bool → T → Result T Misread
if_so true thing = Ok thing
if_so false thing = Err Range

-- what is told of these things, where they are told
abbrev pub told_by : {A B : Type 0} → (A → Result B Misread) → Result A Misread → Result B Misread
told_by tells (Ok things) = tells things
told_by tells (Err misread) = Err misread

-- what is told of a value that has a thing's shape, by what was read of it
abbrev pub told_as_read : {T : Type 0} → Result T ReadError → Result (Result T Misread) WalkError
told_as_read (Ok thing) = Ok (Ok thing)
told_as_read (Err errors.Range) = Ok (Err Range)
told_as_read (Err errors.Memory) = Err walk.Memory
