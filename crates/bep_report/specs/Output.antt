-- What a writer holds after a write that may have stopped early.
use Rattle.std.specs.Prelude.{ℕ, List, Option, take}
use Rattle.std.specs.Io.KnownBytes.{Appends, Keeps}
use Rattle.bep_report.specs.declared.error.ReportError.{ReportError}
use Rattle.bep_report.specs.declared.error.ReportError.TheVariants.{Memory, Read, Write}

-- known bytes grow by a beginning of these bytes
abbrev pub AppendsBeginning : Option (List ℕ) → Option (List ℕ) → List ℕ → Type 0
AppendsBeginning old new bytes = (count : ℕ) × Appends old new (take count bytes)

-- what is written of a text after an error: nothing where memory ran out, a beginning where the writer failed; nothing is read
abbrev pub WritesInPart : Option (List ℕ) → Option (List ℕ) → List ℕ → ReportError → Type 0
WritesInPart old new text Memory = Keeps old new
WritesInPart old new text Read = ⊥
WritesInPart old new text Write = AppendsBeginning old new text
