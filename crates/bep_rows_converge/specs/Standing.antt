-- What is answered of names of which it is asked whether they converge, and of earlier and later ones together (this project's profile).
use Rattle.std.specs.Prelude.{ℕ, Bool, true, false, List, [], Option, if◌then◌else◌}
use Rattle.std.specs.Ordering.{is_lt}
use Rattle.bep_converge.specs.ConvergeVerdict as verdicts
use Rattle.bep_converge.specs.declared.converge_reason.ConvergeReason.{ConvergeReason}
use Rattle.bep_converge_answer.specs.Lines.{converge_word_of}
use Rattle.bep_converge_check.specs.Hindrance.{Hinder, hinder_cmp}
use Rattle.bep_lines.specs.Lines.{reason_line}
use Rattle.bep_model.specs.Tables.{Device, Folder, FileName}
use Rattle.bep_rows_converge.specs.declared.standing.ConvergeStanding.{ConvergeStanding}
use Rattle.bep_rows_converge.specs.declared.standing.ConvergeStanding.TheVariants.{Converging, Not}

-- the verdict that it is
abbrev pub verdict_of : ConvergeStanding → verdicts.ConvergeVerdict
verdict_of Converging = verdicts.Converging
verdict_of (Not reason folder name device) = verdicts.NotConverging reason folder name device

-- a reason at a place
abbrev pub hindering : ConvergeReason → Folder → FileName → Option Device → Hinder
hindering reason folder name device = record { reason = reason; place = record { folder = folder; name = name; device = device } }

-- Whether the answer to later names comes before that to earlier ones: by the number of its reason, then by place; what converges comes
-- last.
abbrev pub precedes : ConvergeStanding → ConvergeStanding → Bool
precedes Converging earlier = false
precedes (Not reason folder name device) Converging = true
precedes (Not reason folder name device) (Not other in_folder at_name of) =
    is_lt (hinder_cmp (hindering reason folder name device) (hindering other in_folder at_name of))

-- the answer to both
abbrev pub joined : ConvergeStanding → ConvergeStanding → ConvergeStanding
joined earlier later = if precedes later earlier then later else earlier

-- the line of a name that doesn't converge; none for another
abbrev pub hindrance_line : verdicts.ConvergeVerdict → List ℕ
hindrance_line verdicts.Converging = []
hindrance_line (verdicts.NotConverging reason folder name device) = reason_line (converge_word_of reason) folder name device
