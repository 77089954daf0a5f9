-- What is found of the reasons that fail at some names (this project's profile).
use Rattle.std.specs.Prelude.{Option}
use Rattle.bep_model.specs.Tables.{Tables, Folder, FileName}
use Rattle.bep_converge.specs.ConvergeReasons.{AsksToConverge}
use Rattle.bep_audit.specs.inner.Search.{FindsFirst}
use Rattle.bep_audit.specs.inner.Walk.{key_in}
use Rattle.bep_converge_check.specs.Hindrance.{Hinder, hinder_cmp}

-- what is found of the reasons that fail at names of which this holds: nothing, or else the least, at its first place
abbrev pub FindsHinder : Tables → (Folder × FileName → Type 0) → Option Hinder → Type 0
FindsHinder t Names = FindsFirst hinder_cmp (λ one. Names (key_in one.place) → AsksToConverge t one.reason one.place)
