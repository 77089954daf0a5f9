-- What came of the words of the command line (this project's profile).
use Rattle.std.specs.Prelude.{◌≡◌, ◌≢◌, ◌⊎◌, ◌<◌, ℕ, List, [], Option, Err}
use Rattle.std.specs.Io.KnownBytes.{Keeps}
use Rattle.std.specs.declared.io.ErrorKind.{ErrorKind}
use Rattle.std.specs.declared.io.ErrorKind.TheVariants.{OutOfMemory}
use Rattle.bep_answer.specs.Answer.{SaysSettled}
use Rattle.bep_answer.specs.Beside.{TellsOfCheck, TellsOfCut, TellsOfPart}
use Rattle.bep_answer.specs.Firm.{SaysFirm}
use Rattle.bep_answer.specs.Heard.{IsHeard}
use Rattle.bep_answer.specs.Status.{IsCertificateTold, IsFirmTold, IsFirmToldUnderWinners, IsPartTold, IsTold, IsToldUnderWinners, certified_status_of, firm_status_of, partial_status_of, status_of, usage}
use Rattle.bep_answer.specs.declared.person.Said.{Said}
use Rattle.bep_answer.specs.UnderWinners.{SaysFirmUnderWinners, SaysSettledUnderWinners}
use Rattle.bep_converge_answer.specs.Convergence.{SaysConverging}
use Rattle.bep_converge_answer.specs.Status.{IsConvergeTold, converge_status_of}
use Rattle.bep_converge_explain.specs.Explained.{IsConvergeExplanationTold}
use Rattle.bep_lines.specs.declared.form.Form.{Form}
use Rattle.bep_live.specs.Beside.{IsLiveEndWith, IsLiveWith}
use Rattle.bep_live.specs.Lived.{EndsLived}
use Rattle.bep_live.specs.Told.{IsLiveEndTold, IsLiveHeard, IsLiveTold}
use Rattle.bep_play.specs.Beside.{TellsOfEnd, TellsOfRun}
use Rattle.bep_play.specs.Played.{EndsSettled}
use Rattle.bep_play.specs.Told.{IsEndTold, IsRunTold}
use Rattle.bep_explain.specs.document.FirmExplained.{IsFirmExplanationTold}
use Rattle.bep_explain.specs.document.Told.{IsExplanationTold}
use Rattle.bep_explain.specs.document.UnderWinners.{IsExplanationToldUnderWinners, IsFirmExplanationToldUnderWinners}
use Rattle.bep_rows_answer.specs.Told.{IsFirmRowsHeard, IsFirmRowsTold, IsRowsHeard, IsSettledRowsHeard, IsSettledRowsTold, SaysFirmRows, SaysSettledRows}
use Rattle.bep_rows_converge.specs.Converging.{IsConvergeRowsTold, converge_rows_status}
use Rattle.bep_rows_converge.specs.Explained.{IsExplainedConvergeRowsTold}
use Rattle.bep_rows_converge.specs.Stays.{SaysConvergingRows}
use Rattle.bep_rows_explain.specs.Explained.{IsExplainedRowsTold, IsFirmExplainedRowsTold}
use Rattle.bep_report.specs.declared.error.ReportError.TheVariants.{Memory}
use Rattle.clap.specs.Words.{Text, fault_of}
use Rattle.bep_words.specs.Mode.{Asks, program}
use Rattle.bep_words.specs.declared.mode.Ending.{Ending}
use Rattle.bep_words.specs.declared.mode.Ending.TheVariants.{Report, Document}
use Rattle.bep_words.specs.declared.mode.Extent.{Extent}
use Rattle.bep_words.specs.declared.mode.Extent.TheVariants.{All, Won}
use Rattle.bep_words.specs.declared.mode.Goal.{Goal}
use Rattle.bep_words.specs.declared.mode.Goal.TheVariants.{Settled}
use Rattle.bep_words.specs.declared.mode.Goal.TheVariants as goals
use Rattle.bep_words.specs.declared.mode.Mode.{Mode}
use Rattle.bep_words.specs.declared.mode.Mode.TheVariants.{Check, Firm, Converge, Certify, Explain, Rows, Run}
use Rattle.bep_words.specs.declared.mode.Reasons.{Reasons}
use Rattle.bep_words.specs.declared.mode.Reasons.TheVariants as reasons
use Rattle.bep_words.specs.declared.mode.Under.{Under}
use Rattle.bep_words.specs.declared.mode.Under.TheVariants.{Given, Winners}

-- what came of a scenario for each ending that is asked for
abbrev pub IsEnding : Ending → Option (List ℕ) → Option (List ℕ) → Option (List ℕ) → Option (List ℕ) → Option (List Said) → Option (List Said) → ℕ → Type 0
IsEnding Report unread left held now heard hears status = IsRunTold unread left held now status × IsHeard status_of TellsOfRun unread left heard hears status
IsEnding Document unread left held now heard hears status = IsEndTold unread left held now status × IsHeard certified_status_of TellsOfEnd unread left heard hears status

-- the same where threads run its cluster after the steps
abbrev pub IsLiveEnding : Ending → Option (List ℕ) → Option (List ℕ) → Option (List ℕ) → Option (List ℕ) → Option (List Said) → Option (List Said) → ℕ → Type 0
IsLiveEnding Report unread left held now heard hears status = IsLiveTold unread left held now status × IsLiveHeard status_of IsLiveWith unread left held now heard hears status
IsLiveEnding Document unread left held now heard hears status = IsLiveEndTold unread left held now status × IsLiveHeard certified_status_of IsLiveEndWith unread left held now heard hears status

-- what came of a scenario for the turns that threads are to make: without turns exactly what its steps lead to
pub record IsRunning (ending : Ending) (turns : ℕ) (unread left held now : Option (List ℕ)) (heard hears : Option (List Said)) (status : ℕ) : Type 0 where
  pub at_rest : turns ≡ 0 → IsEnding ending unread left held now heard hears status
  pub live : 0 < turns → IsLiveEnding ending unread left held now heard hears status

-- what came of the document for the rows under which an audit is asked for
abbrev pub IsChecking : Under → Option (List ℕ) → Option (List ℕ) → Option (List ℕ) → Option (List ℕ) → Option (List Said) → Option (List Said) → ℕ → Type 0
IsChecking Given unread left held now heard hears status = IsTold unread left held now status × IsHeard status_of TellsOfCheck unread left heard hears status
IsChecking Winners unread left held now heard hears status = IsToldUnderWinners unread left held now status × IsHeard status_of TellsOfCut unread left heard hears status

-- the same where firm is asked for
abbrev pub IsFirming : Under → Option (List ℕ) → Option (List ℕ) → Option (List ℕ) → Option (List ℕ) → Option (List Said) → Option (List Said) → ℕ → Type 0
IsFirming Given unread left held now heard hears status = IsFirmTold unread left held now status × IsHeard firm_status_of TellsOfCheck unread left heard hears status
IsFirming Winners unread left held now heard hears status = IsFirmToldUnderWinners unread left held now status × IsHeard firm_status_of TellsOfCut unread left heard hears status

-- what came of the stream of rows for what is asked of it, where the first reason of each name is told
abbrev pub IsJudgingRows : Goal → Option (List ℕ) → Option (List ℕ) → Option (List ℕ) → Option (List ℕ) → Option (List Said) → Option (List Said) → ℕ → Type 0
IsJudgingRows Settled unread left held now heard hears status = IsSettledRowsTold unread left held now status × IsSettledRowsHeard heard hears status
IsJudgingRows goals.Firm unread left held now heard hears status = IsFirmRowsTold unread left held now status × IsFirmRowsHeard heard hears status
IsJudgingRows goals.Converging unread left held now heard hears status = IsConvergeRowsTold unread left held now status × IsRowsHeard converge_rows_status heard hears status

-- the same where all reasons are
abbrev pub IsExplainingRows : Goal → Option (List ℕ) → Option (List ℕ) → Option (List ℕ) → Option (List ℕ) → Option (List Said) → Option (List Said) → ℕ → Type 0
IsExplainingRows Settled unread left held now heard hears status = IsExplainedRowsTold unread left held now status × IsSettledRowsHeard heard hears status
IsExplainingRows goals.Firm unread left held now heard hears status = IsFirmExplainedRowsTold unread left held now status × IsFirmRowsHeard heard hears status
IsExplainingRows goals.Converging unread left held now heard hears status = IsExplainedConvergeRowsTold unread left held now status × IsRowsHeard converge_rows_status heard hears status

-- one of the two
abbrev pub IsReadingRows : Goal → Reasons → Option (List ℕ) → Option (List ℕ) → Option (List ℕ) → Option (List ℕ) → Option (List Said) → Option (List Said) → ℕ → Type 0
IsReadingRows goal reasons.First = IsJudgingRows goal
IsReadingRows goal reasons.All = IsExplainingRows goal

-- what came of the document for the certificate that is asked for
abbrev pub IsCertifying : Extent → Option (List ℕ) → Option (List ℕ) → Option (List ℕ) → Option (List ℕ) → Option (List Said) → Option (List Said) → ℕ → Type 0
IsCertifying All unread left held now heard hears status = IsCertificateTold unread left held now status × IsHeard certified_status_of TellsOfCut unread left heard hears status
IsCertifying Won unread left held now heard hears status = IsPartTold unread left held now status × IsHeard partial_status_of TellsOfPart unread left heard hears status

-- what came of the document for what is to be explained, in the form that is asked for
abbrev pub IsExplainingGiven : Goal → Form → Option (List ℕ) → Option (List ℕ) → Option (List ℕ) → Option (List ℕ) → Option (List Said) → Option (List Said) → ℕ → Type 0
IsExplainingGiven Settled form unread left held now heard hears status = IsExplanationTold form unread left held now status × IsHeard status_of TellsOfCheck unread left heard hears status
IsExplainingGiven goals.Firm form unread left held now heard hears status = IsFirmExplanationTold form unread left held now status × IsHeard firm_status_of TellsOfCheck unread left heard hears status
IsExplainingGiven goals.Converging form unread left held now heard hears status = IsConvergeExplanationTold form unread left held now status × IsHeard converge_status_of TellsOfCut unread left heard hears status

-- the same under the winners of its names, at which nobody looks where it is asked what keeps it from converging
abbrev pub IsExplainingUnderWinners : Goal → Form → Option (List ℕ) → Option (List ℕ) → Option (List ℕ) → Option (List ℕ) → Option (List Said) → Option (List Said) → ℕ → Type 0
IsExplainingUnderWinners Settled form unread left held now heard hears status = IsExplanationToldUnderWinners form unread left held now status × IsHeard status_of TellsOfCut unread left heard hears status
IsExplainingUnderWinners goals.Firm form unread left held now heard hears status = IsFirmExplanationToldUnderWinners form unread left held now status × IsHeard firm_status_of TellsOfCut unread left heard hears status
IsExplainingUnderWinners goals.Converging form unread left held now heard hears status = IsConvergeExplanationTold form unread left held now status × IsHeard converge_status_of TellsOfCut unread left heard hears status

-- one of the two
abbrev pub IsExplaining : Goal → Under → Form → Option (List ℕ) → Option (List ℕ) → Option (List ℕ) → Option (List ℕ) → Option (List Said) → Option (List Said) → ℕ → Type 0
IsExplaining goal Given form = IsExplainingGiven goal form
IsExplaining goal Winners form = IsExplainingUnderWinners goal form

-- what came of the document where it is asked whether its cut converges
abbrev pub IsConverging : Option (List ℕ) → Option (List ℕ) → Option (List ℕ) → Option (List ℕ) → Option (List Said) → Option (List Said) → ℕ → Type 0
IsConverging unread left held now heard hears status = IsConvergeTold unread left held now status × IsHeard converge_status_of TellsOfCut unread left heard hears status

-- what came of the document, or of the stream of rows, in each mode
abbrev pub IsDone : Mode → Option (List ℕ) → Option (List ℕ) → Option (List ℕ) → Option (List ℕ) → Option (List Said) → Option (List Said) → ℕ → Type 0
IsDone (Check under) = IsChecking under
IsDone (Firm under) = IsFirming under
IsDone Converge = IsConverging
IsDone (Certify extent) = IsCertifying extent
IsDone (Explain goal under form) = IsExplaining goal under form
IsDone (Rows goal told) = IsReadingRows goal told
IsDone (Run ending turns) = IsRunning ending turns

-- the words ask for a mode, and this came of the document in it
abbrev pub IsFollowed : List Text → Option (List ℕ) → Option (List ℕ) → Option (List ℕ) → Option (List ℕ) → Option (List Said) → Option (List Said) → ℕ → Type 0
IsFollowed words unread left held now heard hears status = (mode : Mode) × Asks words mode × IsDone mode unread left held now heard hears status

-- the status tells that the words weren't followed, or that there was no memory for them, and nothing was read or written
abbrev pub IsUnfollowed : Option (List ℕ) → Option (List ℕ) → Option (List ℕ) → Option (List ℕ) → ℕ → Type 0
IsUnfollowed unread left held now status = ((status ≡ usage) ⊎ (status ≡ status_of (Err Memory))) × (left ≡ unread) × Keeps held now

-- one of the two came of the words
abbrev pub IsEnd : List Text → Option (List ℕ) → Option (List ℕ) → Option (List ℕ) → Option (List ℕ) → Option (List Said) → Option (List Said) → ℕ → Type 0
IsEnd words unread left held now heard hears status = IsUnfollowed unread left held now status ⊎ IsFollowed words unread left held now heard hears status

-- what comes of the words that the program is given
pub record IsProgramRun (words : List Text) (unread left held now : Option (List ℕ)) (heard hears : Option (List Said)) (status : ℕ) : Type 0 where
  -- those in which nothing is at fault are followed
  pub followed : fault_of program words ≡ [] → IsFollowed words unread left held now heard hears status
  -- others aren't: those that clap refuses, and those that ask for help or for the version
  pub unfollowed : fault_of program words ≢ [] → IsUnfollowed unread left held now status
  pub end : IsEnd words unread left held now heard hears status
  pub settled : Asks words (Check Given) → status ≡ 0 → SaysSettled unread left
  pub settled_under_winners : Asks words (Check Winners) → status ≡ 0 → SaysSettledUnderWinners unread left
  pub firm : Asks words (Firm Given) → status ≡ 0 → SaysFirm unread left
  pub firm_under_winners : Asks words (Firm Winners) → status ≡ 0 → SaysFirmUnderWinners unread left
  pub converging : Asks words Converge → status ≡ 0 → SaysConverging unread left
  pub settled_rows : (told : Reasons) → Asks words (Rows Settled told) → status ≡ 0 → SaysSettledRows unread left
  pub firm_rows : (told : Reasons) → Asks words (Rows goals.Firm told) → status ≡ 0 → SaysFirmRows unread left
  pub converging_rows : (told : Reasons) → Asks words (Rows goals.Converging told) → status ≡ 0 → SaysConvergingRows unread left
  pub ends_settled : Asks words (Run Report 0) → status ≡ 0 → EndsSettled unread left
  pub lives_settled : (turns : ℕ) → Asks words (Run Report turns) → 0 < turns → status ≡ 0 → EndsLived unread left

-- the status where the system gave the program no words, by the kind of its error
abbrev pub status_without : ErrorKind → ℕ
status_without OutOfMemory = status_of (Err Memory)
status_without _ = usage

-- and then nothing is read or written
pub record IsWithoutWords (kind : ErrorKind) (unread left held now : Option (List ℕ)) (status : ℕ) : Type 0 where
  pub told : status ≡ status_without kind
  pub unread_still : left ≡ unread
  pub unwritten : Keeps held now
