-- What follows from the definitions alone; the functions of src/laws.rt have these as contracts.
use Rattle.std.specs.Prelude.{◌≡◌, ◌⊎◌, ◌↔◌, ◌≤◌, List, [], None}
use Rattle.bep_choice.specs.Choice.{Candidate}
use Rattle.bep_model.specs.declared.row.Row.{Row}
use Rattle.bep_model.specs.declared.reason.Reason.{Reason}
use Rattle.bep_model.specs.Tables.{Tables, Device, Folder, FileName}
use Rattle.bep_model.specs.Foreign.{IsFinite}
use Rattle.bep_model.specs.Winner.{IsWinner}
use Rattle.bep_model.specs.Settled.{Rise, IsListOfWinners, IsSettled}
use Rattle.bep_model.specs.Stays.{Stays, KeepsRecords, SameShares, RecordsAreNamed, SameContents}
use Rattle.bep_model.specs.WithoutWinner.{IsWithoutWinner, IsFirstWithoutWinner, OwnRecordsAreNamed}
use Rattle.bep_model.specs.Reasons.{Place, Asks, first_disordered}
use Rattle.bep_model.specs.Verdict.{Verdict, number_of, IsVerdict}
use Rattle.bep_model.specs.Calm.{IsCalm, contents_of, Kept}
use Rattle.bep_model.specs.Firm.{IsFirm, StaysFirm}
use Rattle.bep_model.specs.declared.firm_reason.FirmReason.{FirmReason}
use Rattle.bep_model.specs.FirmVerdict.{FirmVerdict, AsksFirm, IsFirmVerdict}

-- settled is that no reason fails anywhere
abbrev pub SettledIsFaultless : Type 0
SettledIsFaultless = (t : Tables) (rows : List Row) → IsSettled t rows ↔ ((reason : Reason) (place : Place) → Asks t rows reason place)

-- rows rise exactly where none is out of order
abbrev pub RowsRiseInOrder : Type 0
RowsRiseInOrder = (rows : List Row) → (first_disordered rows ≡ None) ↔ Rise rows

-- the reasons have the numbers from 1 to 12, each its own
abbrev pub NumbersAreWithin : Type 0
NumbersAreWithin = (reason : Reason) → (1 ≤ number_of reason) × (number_of reason ≤ 12)

abbrev pub NumbersDiffer : Type 0
NumbersDiffer = (one other : Reason) → number_of one ≡ number_of other → one ≡ other

-- a name has one winner at most
abbrev pub WinnerIsUnique : Type 0
WinnerIsUnique =
    (t : Tables) (folder : Folder) (name : FileName) (one other : Candidate) → IsWinner t folder name one → IsWinner t folder name other → one ≡ other

-- there is one verdict at most
abbrev pub VerdictIsUnique : Type 0
VerdictIsUnique = (t : Tables) (rows : List Row) (one other : Verdict) → IsVerdict t rows one → IsVerdict t rows other → one ≡ other

-- there is a verdict on every finite cut
abbrev pub VerdictExists : Type 0
VerdictExists = (t : Tables) (rows : List Row) → IsFinite t → (verdict : Verdict) × IsVerdict t rows verdict

-- a settled list of rows is the list of the winners of the known names, in order
abbrev pub SettledIsListOfWinners : Type 0
SettledIsListOfWinners = (t : Tables) (rows : List Row) → IsSettled t rows → IsListOfWinners t rows

-- a cut has one list of winners at most
abbrev pub ListOfWinnersIsUnique : Type 0
ListOfWinnersIsUnique = (t : Tables) (rows others : List Row) → IsListOfWinners t rows → IsListOfWinners t others → rows ≡ others

-- a cut is settled for one list of rows at most
abbrev pub CertificateIsUnique : Type 0
CertificateIsUnique = (t : Tables) (rows others : List Row) → IsSettled t rows → IsSettled t others → rows ≡ others

-- a list of winners is settled wherever any list is
abbrev pub WinnersAreSettledIfAny : Type 0
WinnersAreSettledIfAny = (t : Tables) (rows others : List Row) → IsListOfWinners t rows → IsSettled t others → IsSettled t rows

-- where there is a list of winners, no known name is without winner
abbrev pub WinnersLeaveNoneOut : Type 0
WinnersLeaveNoneOut = (t : Tables) (rows : List Row) (folder : Folder) (name : FileName) → IsListOfWinners t rows → ¬ IsWithoutWinner t folder name

-- there is one first name without winner at most
abbrev pub FirstWithoutIsUnique : Type 0
FirstWithoutIsUnique =
    (t : Tables) (one other : Folder × FileName) → IsFirstWithoutWinner t one.0 one.1 → IsFirstWithoutWinner t other.0 other.1 → one ≡ other

-- on every finite cut there is a list of winners, or a first name without winner
abbrev pub WinnersOrFirstWithout : Type 0
WinnersOrFirstWithout =
    (t : Tables) → IsFinite t → OwnRecordsAreNamed t →
    ((rows : List Row) × IsListOfWinners t rows) ⊎ ((key : Folder × FileName) × IsFirstWithoutWinner t key.0 key.1)

-- what is settled is calm for the contents of its rows, whichever devices were reset
abbrev pub SettledIsCalm : Type 0
SettledIsCalm = (t : Tables) (rows : List Row) (reset : List Device) → IsSettled t rows → IsCalm t (contents_of rows) reset

-- a later cut that is calm for a settled cut's contents, and whose stores are kept, is as the certificate says
abbrev pub CalmStays : Type 0
CalmStays = (t later : Tables) (rows : List Row) (reset : List Device) →
    IsSettled t rows → SameShares t later → IsCalm later (contents_of rows) reset → Kept t later → Stays t rows reset later

-- and it is settled for its own winners, if no device was reset and no record went away
abbrev pub CalmIsSettledAgain : Type 0
CalmIsSettledAgain =
    (t later : Tables) (rows : List Row) → IsSettled t rows → SameShares t later → KeepsRecords t later → RecordsAreNamed later → IsCalm later (contents_of rows) [] →
    (others : List Row) × IsSettled later others × SameContents rows others

-- what is firm stays firm, under the same rows, and nothing changes, whatever free peers do
abbrev pub FirmStaysFirm : Type 0
FirmStaysFirm = (t : Tables) (rows : List Row) → IsFirm t rows → StaysFirm t rows

-- a settled cut is firm exactly where none of the four reasons fails anywhere
abbrev pub FirmIsFaultless : Type 0
FirmIsFaultless = (t : Tables) (rows : List Row) →
    IsFirm t rows ↔ (IsSettled t rows × ((reason : FirmReason) (place : Place) → AsksFirm t rows reason place))

-- there is one verdict at most
abbrev pub FirmVerdictIsUnique : Type 0
FirmVerdictIsUnique = (t : Tables) (rows : List Row) (one other : FirmVerdict) → IsFirmVerdict t rows one → IsFirmVerdict t rows other → one ≡ other
