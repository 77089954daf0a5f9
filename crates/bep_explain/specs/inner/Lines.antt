-- Lines that are written a failure at a time.
use Rattle.std.specs.Prelude.{◌≡◌, ℕ, List, [], ◌++◌}
use Rattle.std.specs.List.{flat_map}
use Rattle.bep_audit.specs.Loose.{Loosening}
use Rattle.bep_audit.specs.Walk.{Failure}
use Rattle.bep_explain.specs.FirmTold.{LooseTold, loose_text, loosenings_of}
use Rattle.bep_explain.specs.Told.{Told, failures_of, told_text}

-- the lines of these failures, each with something that is said of it, stand behind what stood there
abbrev pub AddsLines : List Failure → List ℕ → List ℕ → Type 0
AddsLines found old new = (told : List Told) × (failures_of told ≡ found) × (new ≡ old ++ flat_map told_text told)

-- the same of what keeps a settled cut from being firm
abbrev pub AddsLooseLines : List Loosening → List ℕ → List ℕ → Type 0
AddsLooseLines found old new = (told : List LooseTold) × (loosenings_of told ≡ found) × (new ≡ old ++ flat_map loose_text told)

-- the lines of these, and then of those
abbrev pub AreLines : List Failure → List Loosening → List ℕ → Type 0
AreLines found loose text = (mid : List ℕ) × AddsLines found [] mid × AddsLooseLines loose mid text
