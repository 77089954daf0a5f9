-- The walk along the logs, as the check keeps it (this project's profile).
use Rattle.std.specs.Prelude.{◌≡◌, ◌==◌, ℕ, Bool, false, List, [], ◌∷◌, map, Contains}
use Rattle.bep_fit.specs.declared.stamped.Stamped.{Stamped}
use Rattle.bep_fit.specs.declared.verdict.RunVerdict.{RunVerdict}
use Rattle.bep_fit.specs.declared.verdict.RunVerdict.TheVariants.{Fits, Misfit}
use Rattle.bep_fit.specs.Logs.{ObjectLog, touches}
use Rattle.bep_fit.specs.Walk.{ComesNext, IsAt, IsFirstAt, Left}
use Rattle.bep_run_check.specs.declared.rest.Rest.{Rest}

-- the log, and what is left of its events
abbrev pub left_of : Rest → Left
left_of one = record { log = one.log.now; events = one.events.now }

-- all of the log is left
abbrev pub whole : ObjectLog → Left
whole log = record { log = log; events = log.events }

abbrev pub lefts : List Rest → List Left
lefts walk = map left_of walk

-- what comes next has the ticket
abbrev pub is_at : ℕ → List Stamped → Bool
is_at ticket [] = false
is_at ticket (next ∷ more) = next.ticket == ticket

-- the event comes next in the log, if it touches it; else it has another ticket
abbrev pub Agrees : Stamped → Rest → Type 0
Agrees event one = ComesNext event (touches event one.log.now) one.events.now

-- in some log the ticket comes next
abbrev pub IsSomeAt : ℕ → List Left → Type 0
IsSomeAt ticket walk = (one : Left) × Contains walk one × IsAt ticket one.events

-- a misfit at the ticket, of the first such object
abbrev pub IsMisfitAt : ℕ → List Left → RunVerdict → Type 0
IsMisfitAt ticket walk (Fits count) = ⊥
IsMisfitAt ticket walk (Misfit object at) = (at ≡ ticket) × IsFirstAt ticket walk object
