-- The tickets of a log rise from 1 on.
use Rattle.std.proofs.Common.{◌≡◌, ◌<◌, ℕ, List, [], ◌∷◌, Contains, sym, subst, ⊎_elim, arith}
use Rattle.bep_facts.specs.Members.{Contains-cons_cases, not_in_none}
use Rattle.bep_fit.specs.declared.stamped.Stamped.{Stamped}
use Rattle.bep_fit.specs.Merge.{Rises}
use Rattle.bep_log.specs.History.{IsHistory, RiseTo}
use Rattle.bep_run_check.specs.Log.{AreTicketed}

abbrev ticket_of : Stamped → ℕ
ticket_of one = one.ticket

above_low : (low : ℕ) (log : List Stamped) (last : ℕ) → RiseTo low log last → (one : Stamped) → Contains log one → low < one.ticket
above_low low [] last rise one there = absurd (not_in_none one there)
above_low low (first ∷ more) last rise one there =
    ⊎_elim
    (λ same. subst (λ (s : Stamped). low < s.ticket) same rise.0)
    (λ later. let above = above_low first.ticket more last rise.1 one later in let here = rise.0 in omega (arith, above, here))
    (Contains-cons_cases first more one there)

rises : (low : ℕ) (log : List Stamped) (last : ℕ) → RiseTo low log last → Rises ticket_of log
rises low [] last rise = tt
rises low (first ∷ more) last rise = (λ later stands. above_low first.ticket more last rise.1 later stands, rises first.ticket more last rise.1)

pub ticketed : (events log : List Stamped) (last : ℕ) → events ≡ log → IsHistory log last → AreTicketed events
ticketed events log last same history =
    subst AreTicketed (sym same) (record { rise = rises 0 log last history.rise; above = above_low 0 log last history.rise })
