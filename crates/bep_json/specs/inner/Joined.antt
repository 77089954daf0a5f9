-- What is told of a list, item by item.
use Rattle.std.specs.Prelude.{List, [], ◌∷◌, ◌++◌, Option, None, Some, Result, Ok, Err}
use Rattle.bep_json.specs.declared.told.Misread.{Misread}
use Rattle.bep_json.specs.declared.told.Misread.TheVariants.{Shape, Range}

-- these things, where none was misread
abbrev pub so_far : {T : Type 0} → Option Misread → List T → Result (List T) Misread
so_far None things = Ok things
so_far (Some misread) things = Err misread

-- why a thing or the next one was misread, if one was: another shape is told before a range, and else the last
abbrev pub worse : Option Misread → Option Misread → Option Misread
worse None next = next
worse (Some Shape) next = Some Shape
worse (Some Range) None = Some Range
worse (Some Range) (Some next) = Some next

-- what is told of a list, and then of one item more
abbrev pub joined : {T : Type 0} → Result (List T) Misread → Result T Misread → Result (List T) Misread
joined (Ok things) (Ok thing) = Ok (things ++ thing ∷ [])
joined (Ok things) (Err misread) = Err misread
joined (Err Shape) next = Err Shape
joined (Err Range) (Err misread) = Err misread
joined (Err Range) (Ok thing) = Err Range

-- what is told of a list, and then of the rest of it
abbrev pub followed : {T : Type 0} → Result (List T) Misread → Result (List T) Misread → Result (List T) Misread
followed (Ok things) (Ok more) = Ok (things ++ more)
followed (Ok things) (Err misread) = Err misread
followed (Err Shape) more = Err Shape
followed (Err Range) (Err misread) = Err misread
followed (Err Range) (Ok more) = Err Range
