-- When the logs of a run fit, and where they don't: which event is at fault (this project's profile).
use Rattle.std.specs.Prelude.{◌≡◌, ◌≢◌, ◌⊎◌, ◌<◌, ◌≤◌, ℕ, true, false, List, [], ◌∷◌, length, Contains}
use Rattle.bep_fit.specs.declared.object.Object.{Object}
use Rattle.bep_fit.specs.declared.stamped.Stamped.{Stamped}
use Rattle.bep_fit.specs.declared.verdict.RunVerdict.{RunVerdict}
use Rattle.bep_fit.specs.declared.verdict.RunVerdict.TheVariants as verdicts
use Rattle.bep_fit.specs.Logs.{ObjectLog, HasLog, named, touches}
use Rattle.bep_fit.specs.Merge as lists

-- ---- events at fault

-- an entry with this ticket stands right after one whose ticket isn't below it
abbrev pub Falls : ℕ → List Stamped → Type 0
Falls ticket [] = ⊥
Falls ticket (one ∷ []) = ⊥
Falls ticket (one ∷ next ∷ more) = ((next.ticket ≡ ticket) × (ticket ≤ one.ticket)) ⊎ Falls ticket (next ∷ more)

-- an object that the event touches doesn't have it under its ticket; an object without a log has no event
abbrev pub IsMissing : List ObjectLog → Stamped → Type 0
IsMissing logs one =
    ((object : Object) × Contains (named one) object × ¬ HasLog logs object) ⊎
    ((log : ObjectLog) × Contains logs log × (touches one log ≡ true) × ¬ Contains log.events one)

-- an object has a different event under its ticket
abbrev pub IsContradicted : List ObjectLog → Stamped → Type 0
IsContradicted logs one =
    (log : ObjectLog) × (other : Stamped) × Contains logs log × Contains log.events other × (other.ticket ≡ one.ticket) × (other ≢ one)

-- an object that it doesn't touch has an event under its ticket
abbrev pub IsElsewhere : List ObjectLog → Stamped → Type 0
IsElsewhere logs one =
    (log : ObjectLog) × (other : Stamped) × Contains logs log × Contains log.events other × (other.ticket ≡ one.ticket) × (touches one log ≡ false)

-- The object's event under this ticket is at fault: its ticket isn't above that of the entry before it, or one of the three
-- above holds of it.
abbrev pub IsAtFault : List ObjectLog → ℕ → ObjectLog → Type 0
IsAtFault logs ticket log =
    Falls ticket log.events ⊎
    ((one : Stamped) × Contains log.events one × (one.ticket ≡ ticket) × (IsMissing logs one ⊎ (IsContradicted logs one ⊎ IsElsewhere logs one)))

-- no object's event under this ticket is at fault
abbrev pub AreFaultlessAt : List ObjectLog → ℕ → Type 0
AreFaultlessAt logs ticket = (log : ObjectLog) → Contains logs log → ¬ IsAtFault logs ticket log

abbrev pub AreFaultless : List ObjectLog → Type 0
AreFaultless logs = (ticket : ℕ) → AreFaultlessAt logs ticket

-- In each log the tickets rise. An event stands, with its one ticket, in the log of every object that it touches, and in no
-- other. What it names has a log.
pub record DoAgree (logs : List ObjectLog) : Type 0 where
  pub agree : lists.DoAgree (λ (one : Stamped). one.ticket) (λ (log : ObjectLog). log.events) touches logs
  pub there : (log : ObjectLog) (one : Stamped) (object : Object) → Contains logs log → Contains log.events one →
      Contains (named one) object → HasLog logs object

-- ---- rounds

abbrev pub first_round : List ObjectLog → ℕ
first_round [] = 0
first_round (log ∷ more) = log.round

-- the round isn't that of the first object
abbrev pub IsOfOtherRound : List ObjectLog → ObjectLog → Type 0
IsOfOtherRound logs log = log.round ≢ first_round logs

abbrev pub AreOfOneRound : List ObjectLog → Type 0
AreOfOneRound logs = (log : ObjectLog) → Contains logs log → log.round ≡ first_round logs

-- ---- the verdict

-- the list holds each event of the logs once, and no other, by rising ticket
abbrev pub IsMerged : List ObjectLog → List Stamped → Type 0
IsMerged = lists.IsMerged (λ (one : Stamped). one.ticket) (λ (log : ObjectLog). log.events)

-- the rounds are equal, no event is at fault, and the merged list has this many events
pub record Fits (logs : List ObjectLog) (count : ℕ) : Type 0 where
  pub rounds : AreOfOneRound logs
  pub faultless : AreFaultless logs
  pub merged : List Stamped
  pub is_merged : IsMerged logs merged
  pub counted : length merged ≡ count

-- P holds of some log, and this is the object of the first such log
abbrev pub IsFirst : (ObjectLog → Type 0) → List ObjectLog → Object → Type 0
IsFirst P [] object = ⊥
IsFirst P (log ∷ more) object = (P log × (log.object ≡ object)) ⊎ ((¬ P log) × IsFirst P more object)

-- the object is the first one whose round isn't that of the first object of all; the ticket is 0 then
pub record DiffersFirst (logs : List ObjectLog) (object : Object) (ticket : ℕ) : Type 0 where
  pub first : IsFirst (IsOfOtherRound logs) logs object
  pub zero : ticket ≡ 0

-- The rounds are equal. The ticket is the least one at which an event is at fault, and the object is the first one whose
-- event under it is.
pub record IsFirstAtFault (logs : List ObjectLog) (object : Object) (ticket : ℕ) : Type 0 where
  pub rounds : AreOfOneRound logs
  pub first : IsFirst (IsAtFault logs ticket) logs object
  pub least : (lower : ℕ) → lower < ticket → AreFaultlessAt logs lower

-- What a check of the logs answers. The logs stand in the order of their objects: devices, then links, each rising.
abbrev pub IsRunVerdict : List ObjectLog → RunVerdict → Type 0
IsRunVerdict logs (verdicts.Fits count) = Fits logs count
IsRunVerdict logs (verdicts.Misfit object ticket) = DiffersFirst logs object ticket ⊎ IsFirstAtFault logs object ticket
