-- A ticket that is drawn is above the last one that was taken, where there is a history.
use Rattle.std.proofs.Common.{◌≡◌, ◌<◌, ◌≤◌, ◌∷◌, ℕ, List, [], Option, Some, None, Result, Ok, Err, inl, inr, refl, sym, ap, subst, ⊎_elim, arith}
use Rattle.std.specs.Prelude.{IfErr, IfSome}
use Rattle.std.proofs.lemmas.List.Elements.{Contains-append_right}
use Rattle.atomic_table.specs.Seated.{TableId}
use Rattle.bep_facts.specs.Members.{Contains-first}
use Rattle.bep_fit.specs.declared.object.Object.{Object}
use Rattle.bep_fit.specs.declared.stamped.Stamped.{Stamped}
use Rattle.bep_history.specs.Chair.{AreTwo}
use Rattle.bep_history.specs.View.{IsAbove, row}
use Rattle.bep_history.specs.declared.view.View.{View}
use Rattle.bep_log.specs.Acts.{Does, LogsIn}
use Rattle.bep_log.specs.ActsOver.{LogsOver}
use Rattle.bep_log.specs.History.{last_with, with_events}
use Rattle.bep_log.specs.LoggedLink.{LinkLogs, LoggedBetween}
use Rattle.bep_log.specs.LoggedPeer.{LoggedMember}
use Rattle.bep_log.specs.Over.{Doing}
use Rattle.bep_log.specs.declared.error.LogError.{LogError}
use Rattle.bep_log.specs.declared.error.LogError.TheVariants.{TicketOld}
use Rattle.bep_machine.specs.Answer.{Row}
use Rattle.bep_machine.specs.Link.{Link}
use Rattle.bep_machine.specs.declared.logged.Logged.{Logged}
use Rattle.bep_machine.specs.declared.moved.Moved.{Moved}
use Rattle.bep_machine.specs.declared.step.Step.{Step}
use Rattle.bep_model.specs.Tables.{FileName, Folder}
use Rattle.bep_run.specs.inner.Kept.{IsSeated, alone}
use Rattle.bep_run.specs.inner.Tickets.{IsLastIn, IsNew, IsNotOld}

-- ---- the last ticket that was taken

-- before the first
pub none_taken : (table : Option TableId) (log : List Stamped) (last : ℕ) → last ≡ 0 → IsLastIn table log last
none_taken None log last zero = tt
none_taken (Some table) log last zero = inl zero

last_told : (table : Option TableId) (log : List Stamped) (last ticket : ℕ) (event : Option Logged) → IsLastIn table log last → IsLastIn table (with_events log ticket event) (last_with last ticket event)
last_told None log last ticket event is = tt
last_told (Some table) log last ticket None is = is
last_told (Some table) log last ticket (Some event) is =
    let one : Stamped = record { ticket = ticket; event = event } in
    inr (one, Contains-append_right log (one ∷ []) one (Contains-first one []), refl)

-- as the log grows
pub last_stays : (table : Option TableId) (log new : List Stamped) (last later ticket : ℕ) (event : Option Logged) →
    new ≡ with_events log ticket event → later ≡ last_with last ticket event → IsLastIn table log last → IsLastIn table new later
last_stays table log new last later ticket event grown taken is =
    subst (λ l. IsLastIn table l later) (sym grown) (subst (λ n. IsLastIn table (with_events log ticket event) n) (sym taken) (last_told table log last ticket event is))

-- as it doesn't
pub last_same : (table : Option TableId) (log new : List Stamped) (last later : ℕ) → new ≡ log → later ≡ last → IsLastIn table log last → IsLastIn table new later
last_same table log new last later same taken is = subst (λ l. IsLastIn table l later) (sym same) (subst (λ n. IsLastIn table log n) (sym taken) is)

-- ---- a ticket that is drawn

pub new_ticket : (table : Option TableId) (object : Object) (round : ℕ) (log : List Stamped) (last ticket : ℕ) (seat : Option View) →
    IsSeated table object round log seat → IsLastIn table log last → (0 < ticket) × IfSome seat (IsAbove ticket) → IsNew table last ticket
new_ticket None object round log last ticket seat seated is above = above.0
new_ticket (Some table) object round log last ticket seat seated is above =
    let known : IsAbove ticket (alone object log) = subst (λ (s : Option View). IfSome s (IsAbove ticket)) seated.1 above.1 in
    ⊎_elim
    (λ zero. subst (λ n. n < ticket) (sym zero) above.0)
    (λ found. subst (λ n. n < ticket) found.2 (known (row object log) found.0 (Contains-first (row object log) []) found.1))
    is

-- two seats with a row each
pub are_two : (table : Option TableId) (device link : Object) (round its_round : ℕ) (es fs : List Stamped) (seat its : Option View) →
    IsSeated table device round es seat → IsSeated table link its_round fs its → AreTwo seat its
are_two None device link round its_round es fs seat its seated its_seated = subst (λ (s : Option View). AreTwo s its) (sym seated) tt
are_two (Some table) device link round its_round es fs seat its seated its_seated =
    subst (λ (s : Option View). AreTwo s its) (sym seated.1)
    (subst (λ (i : Option View). AreTwo (Some (alone device es)) i) (sym its_seated.1)
    (record { own = row device es; its = row link fs; own_rows = refl; its_rows = refl; own_claims = refl; its_claims = refl; its_drawn = refl }))

-- ---- what an action answers under it

not_old : (table : Option TableId) (last ticket : ℕ) → IsNew table last ticket → ticket ≤ last → table ≡ None
not_old None last ticket is old = refl
not_old (Some table) last ticket is old = absurd (let above : last < ticket = is in omega arith)

told_old : {A : Type 0} (table : Option TableId) (answer : Result A LogError) → (answer ≡ Err TicketOld → table ≡ None) → IfErr answer (IsNotOld table)
told_old table (Ok done) none = tt
told_old table (Err error) none = λ same. none (ap Err same)

pub in_time : (name : Option FileName) (folder : Folder) (does : Does) (step : Step) (table : Option TableId) (ticket : ℕ) (old new : LoggedMember) (answer : Result Moved LogError) →
    IsNew table old.last ticket → LogsIn name folder does step ticket old new answer → IfErr answer (IsNotOld table)
in_time name folder does step table ticket old new answer is logs =
    told_old table answer (λ same. not_old table old.last ticket is (subst (λ (a : Result Moved LogError). LogsIn name folder does step ticket old new a) same logs).0)

pub in_time_over : (action : Doing) (table : Option TableId) (ticket : ℕ) (old new : LoggedMember) (link after : LoggedBetween) (answer : Result Moved LogError) →
    IsNew table old.last ticket → IsNew table link.last ticket → LogsOver action ticket old new link after answer → IfErr answer (IsNotOld table)
in_time_over action table ticket old new link after answer is its logs =
    told_old table answer
    (λ same. ⊎_elim (not_old table old.last ticket is) (not_old table link.last ticket its) (subst (λ (a : Result Moved LogError). LogsOver action ticket old new link after a) same logs).0)

pub in_time_on_link : (step : Step) (row : Link → Row Link) (table : Option TableId) (ticket : ℕ) (old new : LoggedBetween) (answer : Result (Unit {0}) LogError) →
    IsNew table old.last ticket → LinkLogs step row ticket old new answer → IfErr answer (IsNotOld table)
in_time_on_link step row table ticket old new answer is logs =
    told_old table answer (λ same. not_old table old.last ticket is (subst (λ (a : Result (Unit {0}) LogError). LinkLogs step row ticket old new a) same logs).0)
