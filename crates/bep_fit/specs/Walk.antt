-- A walk along logs whose tickets rise: at each step it goes past the events of the least ticket that is left. So the verdict
-- can be found with one place in each log (this project's profile).
use Rattle.std.specs.Prelude.{◌≡◌, ◌≢◌, ◌⊎◌, ◌<◌, ◌≤◌, ◌==◌, ℕ, Bool, true, false, ⊤, List, [], ◌∷◌, ◌++◌, map, if◌then◌else◌, length, Contains}
use Rattle.std.specs.List.{filter}
use Rattle.bep_fit.specs.declared.object.Object.{Object}
use Rattle.bep_fit.specs.declared.stamped.Stamped.{Stamped}
use Rattle.bep_fit.specs.Fit.{AreOfOneRound, Fits, IsFirstAtFault}
use Rattle.bep_fit.specs.Logs.{HasLog, ObjectLog, named, touches}
use Rattle.bep_fit.specs.Merge as lists

-- a log, and what is left of its events
pub record Left : Type 0 where
  pub log : ObjectLog
  pub events : List Stamped

-- nothing is done yet
abbrev pub start : List ObjectLog → List Left
start logs = map (λ (log : ObjectLog). record { log = log; events = log.events }) logs

-- the events without the first one, if that has the ticket
abbrev pub past : ℕ → List Stamped → List Stamped
past ticket [] = []
past ticket (one ∷ more) = if one.ticket == ticket then more else one ∷ more

-- the walk goes past the ticket in each log
abbrev pub after : ℕ → List Left → List Left
after ticket walk = map (λ (one : Left). record { log = one.log; events = past ticket one.events }) walk

-- in each log the tickets rise
abbrev pub AllRise : List ObjectLog → Type 0
AllRise logs = (log : ObjectLog) → Contains logs log → lists.Rises (λ (one : Stamped). one.ticket) log.events

-- The merged list of what is done, in which each log has its part, and then what is left of it. What is left has greater
-- tickets.
pub record IsWalked (logs : List ObjectLog) (walk : List Left) (done : List Stamped) : Type 0 where
  pub logs_of : map (λ (one : Left). one.log) walk ≡ logs
  pub parts : (one : Left) → Contains walk one → one.log.events ≡ filter (λ (event : Stamped). touches event one.log) done ++ one.events
  pub below : (one : Left) (early late : Stamped) → Contains walk one → Contains done early → Contains one.events late → early.ticket < late.ticket
  pub rises : lists.Rises (λ (one : Stamped). one.ticket) done
  pub logged : (one : Stamped) → Contains done one → lists.IsLogged (λ (log : ObjectLog). log.events) logs one
  pub there : (one : Stamped) (object : Object) → Contains done one → Contains (named one) object → HasLog logs object

-- the event comes next in some log, and none comes next with a lower ticket
pub record IsNext (walk : List Left) (event : Stamped) : Type 0 where
  pub some : (one : Left) × (more : List Stamped) × Contains walk one × (one.events ≡ event ∷ more)
  pub least : (one : Left) (next : Stamped) (more : List Stamped) → Contains walk one → one.events ≡ next ∷ more → event.ticket ≤ next.ticket

-- what comes next is the event, where it touches the log; else it has another ticket, if there is any
abbrev pub ComesNext : Stamped → Bool → List Stamped → Type 0
ComesNext event true [] = ⊥
ComesNext event true (next ∷ more) = next ≡ event
ComesNext event false [] = ⊤
ComesNext event false (next ∷ more) = next.ticket ≢ event.ticket

-- the event comes next in each log that it touches, and no other has its ticket next; what it names has a log
pub record AgreesNext (logs : List ObjectLog) (walk : List Left) (event : Stamped) : Type 0 where
  pub next : (one : Left) → Contains walk one → ComesNext event (touches event one.log) one.events
  pub there : (object : Object) → Contains (named event) object → HasLog logs object

-- what comes next has the ticket
abbrev pub IsAt : ℕ → List Stamped → Type 0
IsAt ticket [] = ⊥
IsAt ticket (next ∷ more) = next.ticket ≡ ticket

-- the object is the first one in whose log that is so
abbrev pub IsFirstAt : ℕ → List Left → Object → Type 0
IsFirstAt ticket [] object = ⊥
IsFirstAt ticket (one ∷ more) object = (IsAt ticket one.events × (one.log.object ≡ object)) ⊎ ((¬ IsAt ticket one.events) × IsFirstAt ticket more object)

-- ---- laws

abbrev pub WalkBegins : Type 0
WalkBegins = (logs : List ObjectLog) → IsWalked logs (start logs) []

-- an event that agrees is done next
abbrev pub WalkGoesOn : Type 0
WalkGoesOn = (logs : List ObjectLog) (walk : List Left) (done : List Stamped) (event : Stamped) →
    AllRise logs → IsWalked logs walk done → IsNext walk event → AgreesNext logs walk event →
    IsWalked logs (after event.ticket walk) (done ++ event ∷ [])

-- where nothing is left, the logs fit, with what is done
abbrev pub WalkEnds : Type 0
WalkEnds = (logs : List ObjectLog) (walk : List Left) (done : List Stamped) →
    AreOfOneRound logs → IsWalked logs walk done → ((one : Left) → Contains walk one → one.events ≡ []) → Fits logs (length done)

-- one that doesn't agree is at fault, and so is what else has its ticket: the misfit is the first object that has it
abbrev pub WalkFails : Type 0
WalkFails = (logs : List ObjectLog) (walk : List Left) (done : List Stamped) (event : Stamped) (object : Object) →
    AllRise logs → AreOfOneRound logs → IsWalked logs walk done → IsNext walk event → ¬ AgreesNext logs walk event →
    IsFirstAt event.ticket walk object → IsFirstAtFault logs object event.ticket
