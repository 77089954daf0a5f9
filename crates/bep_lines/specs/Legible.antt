-- A verdict's line tells the verdict.
use Rattle.std.specs.Prelude.{◌≡◌, ◌++◌, ◌<◌, ◌^◌, ℕ, List, Option, Some, ⊤, All, IfSome}
use Rattle.bep_record.specs.FolderName.{IsFolderByte}
use Rattle.bep_model.specs.FirmVerdict.{FirmVerdict, Firm, Unsettled, Loose}
use Rattle.bep_model.specs.Tables.{Device, FileName, Folder}
use Rattle.bep_model.specs.Verdict.{Verdict, Settled, Not}
use Rattle.bep_lines.specs.Lines.{verdict_line, firm_verdict_line, refused_line}

-- the folder's name has the bytes of such names alone, and the device, if any, has a number of 64 bits
pub record IsNamed (folder : Folder) (device : Option Device) : Type 0 where
  pub plain : All IsFolderByte folder
  pub bounded : IfSome device (λ number. number < 2 ^ 64)

-- so have those of the verdict's place, if it has one; its name may have any bytes
abbrev pub IsNamedIn : Verdict → Type 0
IsNamedIn Settled = ⊤
IsNamedIn (Not reason folder name device) = IsNamed folder device

abbrev pub IsNamedInFirm : FirmVerdict → Type 0
IsNamedInFirm Firm = ⊤
IsNamedInFirm (Unsettled reason folder name device) = IsNamed folder device
IsNamedInFirm (Loose reason folder name device) = IsNamed folder (Some device)

-- a text that begins with a verdict's line begins with no other verdict's, and goes on in one way
abbrev pub LinesTellVerdicts : Type 0
LinesTellVerdicts = (one other : Verdict) (more rest : List ℕ) → IsNamedIn one → IsNamedIn other →
    verdict_line one ++ more ≡ verdict_line other ++ rest → (one ≡ other) × (more ≡ rest)

-- nor where firm is asked for
abbrev pub LinesTellFirmVerdicts : Type 0
LinesTellFirmVerdicts = (one other : FirmVerdict) (more rest : List ℕ) → IsNamedInFirm one → IsNamedInFirm other →
    firm_verdict_line one ++ more ≡ firm_verdict_line other ++ rest → (one ≡ other) × (more ≡ rest)

-- a text that begins with a verdict's line, of either kind, doesn't begin with the line of a refused document
abbrev pub RefusalsAreNoVerdicts : Type 0
RefusalsAreNoVerdicts = (number : ℕ) (word : List ℕ) (folder : Option Folder) (device : Option Device) (name : Option FileName) (more rest : List ℕ) →
    ((verdict : Verdict) → ¬ (verdict_line verdict ++ more ≡ refused_line number word folder device name ++ rest))
    × ((verdict : FirmVerdict) → ¬ (firm_verdict_line verdict ++ more ≡ refused_line number word folder device name ++ rest))
