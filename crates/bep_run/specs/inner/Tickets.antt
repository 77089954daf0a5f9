-- Tickets that are drawn, and those that were taken (this project's profile).
use Rattle.std.specs.Prelude.{◌≡◌, ◌⊎◌, ◌<◌, ⊤, ℕ, List, Option, Some, None, Contains}
use Rattle.atomic_table.specs.Seated.{TableId}
use Rattle.bep_fit.specs.declared.stamped.Stamped.{Stamped}
use Rattle.bep_log.specs.declared.error.LogError.{LogError}
use Rattle.bep_log.specs.declared.error.LogError.TheVariants.{TicketOld}

-- the ticket is a drawn one; where there is a history, it is above the last one that was taken
abbrev pub IsNew : Option TableId → ℕ → ℕ → Type 0
IsNew None last ticket = 0 < ticket
IsNew (Some table) last ticket = last < ticket

-- where there is a history, the last ticket that was taken is that of an event in the log; 0 before the first
abbrev pub IsLastIn : Option TableId → List Stamped → ℕ → Type 0
IsLastIn None log last = ⊤
IsLastIn (Some table) log last = (last ≡ 0) ⊎ ((one : Stamped) × Contains log one × (one.ticket ≡ last))

-- no ticket is old where there is a history
abbrev pub IsNotOld : Option TableId → LogError → Type 0
IsNotOld table error = (error ≡ TicketOld) → (table ≡ None)
