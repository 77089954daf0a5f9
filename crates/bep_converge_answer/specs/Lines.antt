-- The lines that the program prints where it is asked whether a cut converges (this project's profile).
use Rattle.std.specs.Prelude.{◌++◌, ℕ, List, [], ◌∷◌, codes}
use Rattle.std.specs.Fmt.{decimal}
use Rattle.std.specs.List.{concat, flat_map}
use Rattle.bep_lines.specs.Lines.{newline, reason_line}
use Rattle.bep_converge.specs.declared.converge_reason.ConvergeReason.{ConvergeReason}
use Rattle.bep_converge.specs.declared.converge_reason.ConvergeReason.TheVariants.{NothingPrevails, Concurrent, ContentDiffers, LocalOnly, StoreUnclean, StoreDiffers, SendOnly, WouldCopy}
use Rattle.bep_converge.specs.ConvergeVerdict.{ConvergeVerdict, Converging, NotConverging}
use Rattle.bep_converge_check.specs.Progress.{Progress}

-- the word of a reason
abbrev pub converge_word_of : ConvergeReason → List ℕ
converge_word_of NothingPrevails = codes "NothingPrevails"
converge_word_of Concurrent = codes "Concurrent"
converge_word_of ContentDiffers = codes "ContentDiffers"
converge_word_of LocalOnly = codes "LocalOnly"
converge_word_of StoreUnclean = codes "StoreUnclean"
converge_word_of StoreDiffers = codes "StoreDiffers"
converge_word_of SendOnly = codes "SendOnly"
converge_word_of WouldCopy = codes "WouldCopy"

-- the line of a verdict
abbrev pub converge_line : ConvergeVerdict → List ℕ
converge_line Converging = codes "converging" ++ newline
converge_line (NotConverging reason folder name device) = codes "not converging: " ++ reason_line (converge_word_of reason) folder name device

-- the line of a folder: what `check` says of it, and how many pairs of its names and devices aren't yet at the winner
abbrev pub progress_line : Progress → List ℕ
progress_line one =
    concat (codes "folder " ∷ one.folder ∷ codes ": " ∷ decimal one.names ∷ codes " names, " ∷ decimal one.deleted ∷ codes " deleted, "
    ∷ decimal one.devices ∷ codes " devices, " ∷ decimal one.to_come ∷ codes " pairs not yet at the winner" ∷ newline ∷ [])

-- the report: the line of the verdict, and a line for each folder
abbrev pub converge_report_text : ConvergeVerdict → List Progress → List ℕ
converge_report_text verdict folders = converge_line verdict ++ flat_map progress_line folders
