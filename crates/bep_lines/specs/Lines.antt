-- The lines that the program prints (this project's profile).
use Rattle.std.specs.Prelude.{◌++◌, ℕ, List, [], ◌∷◌, Bool, Option, None, Some, option_map, nat_le, codes, ◌&&◌, if◌then◌else◌}
use Rattle.std.specs.List.{concat}
use Rattle.std.specs.Fmt.{decimal}
use Rattle.bep_model.specs.declared.firm_reason.FirmReason.{FirmReason}
use Rattle.bep_model.specs.declared.firm_reason.FirmReason.TheVariants.{VersionDiffers, ViewNotBelow, FlightNotBelow, PullNotBelow}
use Rattle.bep_model.specs.declared.reason.Reason.{Reason}
use Rattle.bep_model.specs.declared.reason.Reason.TheVariants.{CertificateOrder, NameMissing, NameUnknown, NotWinner, RecordMissing, RecordDiffers, LocalOnly, StoreDiffers, StoreUnclean, ViewAhead, FlightAhead, PullAhead}
use Rattle.bep_model.specs.FirmVerdict.{FirmVerdict, Firm, Unsettled, Loose}
use Rattle.bep_model.specs.Tables.{Device, Folder, FileName}
use Rattle.bep_model.specs.Verdict.{Verdict, Settled, Not}
use Rattle.bep_lines.specs.Text.{printed}

-- a line's end
abbrev pub newline : List ℕ
newline = 10 ∷ []

-- the word of a reason
abbrev pub word_of : Reason → List ℕ
word_of CertificateOrder = codes "CertificateOrder"
word_of NameMissing = codes "NameMissing"
word_of NameUnknown = codes "NameUnknown"
word_of NotWinner = codes "NotWinner"
word_of RecordMissing = codes "RecordMissing"
word_of RecordDiffers = codes "RecordDiffers"
word_of LocalOnly = codes "LocalOnly"
word_of StoreDiffers = codes "StoreDiffers"
word_of StoreUnclean = codes "StoreUnclean"
word_of ViewAhead = codes "ViewAhead"
word_of FlightAhead = codes "FlightAhead"
word_of PullAhead = codes "PullAhead"

-- the word of a reason for which a settled cut isn't firm
abbrev pub firm_word_of : FirmReason → List ℕ
firm_word_of VersionDiffers = codes "VersionDiffers"
firm_word_of ViewNotBelow = codes "ViewNotBelow"
firm_word_of FlightNotBelow = codes "FlightNotBelow"
firm_word_of PullNotBelow = codes "PullNotBelow"

-- where a fault is on a device, ` on ` and its number
abbrev pub on_device : Option Device → List ℕ
on_device None = []
on_device (Some device) = codes " on " ++ decimal device

-- the line of a reason that fails, by its word, and where
abbrev pub reason_line : List ℕ → Folder → FileName → Option Device → List ℕ
reason_line word folder name device = concat (word ∷ codes " " ∷ folder ∷ codes " " ∷ printed name ∷ on_device device ∷ newline ∷ [])

-- the line of a reason that fails, and where
abbrev pub failure_line : Reason → Folder → FileName → Option Device → List ℕ
failure_line reason folder name device = reason_line (word_of reason) folder name device

-- the line of a verdict
abbrev pub verdict_line : Verdict → List ℕ
verdict_line Settled = codes "settled" ++ newline
verdict_line (Not reason folder name device) = codes "not settled: " ++ failure_line reason folder name device

-- the line of a cut that isn't firm, for the reason of this word
abbrev pub not_firm_line : List ℕ → Folder → FileName → Option Device → List ℕ
not_firm_line word folder name device = codes "not firm: " ++ reason_line word folder name device

-- the line of a verdict where firm is asked for
abbrev pub firm_verdict_line : FirmVerdict → List ℕ
firm_verdict_line Firm = codes "firm" ++ newline
firm_verdict_line (Unsettled reason folder name device) = not_firm_line (word_of reason) folder name device
firm_verdict_line (Loose reason folder name device) = not_firm_line (firm_word_of reason) folder name (Some device)

-- the line of a folder: how many names are known in it, how many of them no store holds, how many devices share it
abbrev pub folder_line : Folder → ℕ → ℕ → ℕ → List ℕ
folder_line folder names deleted devices =
    concat (codes "folder " ∷ folder ∷ codes ": " ∷ decimal names ∷ codes " names, " ∷ decimal deleted ∷ codes " deleted, "
    ∷ decimal devices ∷ codes " devices" ∷ newline ∷ [])

-- a part of a place, `-` where there is none
abbrev pub part_text : Option (List ℕ) → List ℕ
part_text None = codes "-"
part_text (Some part) = part

-- a place in a document: a folder, a device and a name, as far as it has them, each after a space
abbrev pub place_text : Option Folder → Option Device → Option FileName → List ℕ
place_text folder device name =
    concat (codes " " ∷ part_text folder ∷ codes " " ∷ part_text (option_map decimal device) ∷ codes " " ∷ part_text (option_map printed name) ∷ [])

-- the numbers of the faults that have a place
abbrev pub has_place : ℕ → Bool
has_place number = nat_le 185 number && nat_le number 189

-- the line of a refused document: the fault's number and word, and its place
abbrev pub refused_line : ℕ → List ℕ → Option Folder → Option Device → Option FileName → List ℕ
refused_line number word folder device name =
    concat (codes "refused: " ∷ decimal number ∷ codes " " ∷ word
    ∷ (if has_place number then place_text folder device name else []) ∷ newline ∷ [])

-- the line of a scenario's step that is refused: which one, counted from 1, and why
abbrev pub step_line : ℕ → ℕ → List ℕ → List ℕ
step_line place number word = concat (codes "step " ∷ decimal place ∷ codes ": " ∷ decimal number ∷ codes " " ∷ word ∷ newline ∷ [])
