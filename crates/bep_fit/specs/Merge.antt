-- Logs of events that have tickets, and their merged list. What an event is, and what has a log, isn't asked (this project's
-- profile).
use Rattle.std.specs.Prelude.{◌≡◌, ◌↔◌, ◌<◌, ℕ, Bool, true, ⊤, List, [], ◌∷◌, Contains}
use Rattle.std.specs.List.{filter}

-- the tickets rise: each is below those of all events after it
abbrev pub Rises : {E : Type 0} → (E → ℕ) → List E → Type 0
Rises ticket [] = ⊤
Rises {E} ticket (one ∷ more) = ((later : E) → Contains more later → ticket one < ticket later) × Rises ticket more

-- the event stands in one of the logs
abbrev pub IsLogged : {E L : Type 0} → (L → List E) → List L → E → Type 0
IsLogged {L = L} events logs one = (log : L) × Contains logs log × Contains (events log) one

-- In each log the tickets rise. An event stands, with its one ticket, in every log that it touches, and in no other.
pub record DoAgree {E L : Type 0} (ticket : E → ℕ) (events : L → List E) (touches : E → L → Bool) (logs : List L) : Type 0 where
  pub rise : (log : L) → Contains logs log → Rises ticket (events log)
  pub every : (one : E) (log : L) → IsLogged events logs one → Contains logs log → touches one log ≡ true → Contains (events log) one
  pub no_other : (one : E) (log : L) → Contains logs log → Contains (events log) one → touches one log ≡ true
  pub one_ticket : (one other : E) → IsLogged events logs one → IsLogged events logs other → ticket one ≡ ticket other → one ≡ other

-- the list holds each event of the logs once, and no other, by rising ticket
pub record IsMerged {E L : Type 0} (ticket : E → ℕ) (events : L → List E) (logs : List L) (merged : List E) : Type 0 where
  pub rises : Rises ticket merged
  pub holds : (one : E) → Contains merged one ↔ IsLogged events logs one

-- each log is what touches it in the list, in the list's order
abbrev pub AreParts : {E L : Type 0} → (L → List E) → (E → L → Bool) → List L → List E → Type 0
AreParts {L = L} events touches logs merged = (log : L) → Contains logs log → events log ≡ filter (λ one. touches one log) merged
