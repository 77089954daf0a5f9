-- The walk along the logs: where it begins, goes on and ends.
use Rattle.std.proofs.Common.{◌≡◌, ◌<◌, ◌≤◌, ◌+◌, ◌==◌, ℕ, Bool, true, false, cond, List, [], ◌∷◌, ◌++◌, Some, None, length, Contains, refl, sym, subst, inr, ⊎_elim, arith}
use Rattle.std.proofs.lemmas.Bool.{eq-eqb}
use Rattle.std.proofs.lemmas.List.{length-append}
use Rattle.std.proofs.lemmas.List.Elements.{Contains-append_right}
use Rattle.std.specs.List.{AllByRecursion}
use Rattle.bep_facts.specs.Members.{Contains-cons_cases, Contains-first, Contains-from_image, holds_of_member, not_in_none}
use Rattle.bep_fit.specs.declared.stamped.Stamped.{Stamped}
use Rattle.bep_fit.specs.declared.verdict.RunVerdict.{RunVerdict}
use Rattle.bep_fit.specs.declared.verdict.RunVerdict.TheVariants.{Fits, Misfit}
use Rattle.bep_fit.specs.Fit.{AreOfOneRound, IsRunVerdict}
use Rattle.bep_fit.specs.Logs.{ObjectLog}
use Rattle.bep_fit.specs.Walk.{AgreesNext, AllRise, IsAt, IsNext, IsWalked, Left, WalkBegins, WalkEnds, WalkFails, WalkGoesOn, after, past, start}
use Rattle.bep_run_check.specs.Log.{IsLogged}
use Rattle.bep_run_check.specs.inner.Next.{next_of}
use Rattle.bep_run_check.specs.inner.Rest.{IsMisfitAt, IsSomeAt, whole}
use Rattle.bep_run_check.proofs.NextFacts.{next_is, none_left}

-- So many events are done, and the walk is past them. Since tickets begin at 1 and rise, the count is below each ticket that
-- is left.
pub record Walked (logs : List ObjectLog) (walk : List Left) (count : ℕ) : Type 0 where
  pub done : List Stamped
  pub walked : IsWalked logs walk done
  pub counted : length done ≡ count
  pub early : (one : Left) (late : Stamped) → Contains walk one → Contains one.events late → count < late.ticket

pub all_rise : (logs : List ObjectLog) → AllByRecursion IsLogged logs → AllRise logs
all_rise logs logged log there = (holds_of_member IsLogged logs log logged there).ticketed.rise

pub begins : WalkBegins → (logs : List ObjectLog) → AllByRecursion IsLogged logs → Walked logs (start logs) 0
begins law logs logged = record {
  done = [];
  walked = law logs;
  counted = refl;
  early = λ one late there stands.
      let of_log = Contains-from_image whole logs one there in
      (holds_of_member IsLogged logs of_log.0 logged of_log.1).ticketed.above late (subst (λ (l : Left). Contains l.events late) (sym of_log.2) stands);
}

module _ (logs : List ObjectLog) (walk : List Left) (count : ℕ) (walked : Walked logs walk count) (event : Stamped) (found : next_of walk ≡ Some event) where
  next : IsNext walk event
  next = next_is walk event found

  pub count_below : count < event.ticket
  count_below =
      let some = next.some in
      walked.early some.0 event some.2 (subst (λ es. Contains es event) (sym some.3) (Contains-first event some.1))

  pub some_at : IsSomeAt event.ticket walk
  some_at = let some = next.some in (some.0, some.2, subst (λ es. IsAt event.ticket es) (sym some.3) refl)

  pub goes_on : WalkGoesOn → AllRise logs → AgreesNext logs walk event → Walked logs (after event.ticket walk) (count + 1)
  goes_on law rise agrees =
      let more = law logs walk walked.done event rise walked.walked next agrees in
      record {
        done = walked.done ++ event ∷ [];
        walked = more;
        counted = let long = length-append walked.done (event ∷ []) in let counted = walked.counted in omega (arith, long, counted);
        early = λ one late there stands.
            let above = more.below one event late there (Contains-append_right walked.done (event ∷ []) event (Contains-first event [])) stands in
            let low = count_below in
            omega (arith, above, low);
      }

  pub fails : WalkFails → AllRise logs → AreOfOneRound logs → (¬ AgreesNext logs walk event) → (verdict : RunVerdict) → IsMisfitAt event.ticket walk verdict → IsRunVerdict logs verdict
  fails law rise rounds wrong (Fits count) misfit = absurd misfit
  fails law rise rounds wrong (Misfit object ticket) misfit =
      subst (λ t. IsRunVerdict logs (Misfit object t)) (sym misfit.0) (inr (law logs walk walked.done event object rise rounds walked.walked next wrong misfit.1))

pub ends : WalkEnds → (logs : List ObjectLog) (walk : List Left) (count : ℕ) → AreOfOneRound logs → Walked logs walk count → next_of walk ≡ None → IsRunVerdict logs (Fits count)
ends law logs walk count rounds walked none =
    subst (λ n. IsRunVerdict logs (Fits n)) walked.counted (law logs walk walked.done rounds walked.walked (none_left walk none))

-- ---- the walk gets shorter

-- how many events are left
abbrev pub left_in : List Left → ℕ
left_in [] = 0
left_in (one ∷ more) = length one.events + left_in more

past_shorter : (ticket : ℕ) (events : List Stamped) → length (past ticket events) ≤ length events
past_shorter ticket [] = omega arith
past_shorter ticket (one ∷ more) = cases (one.ticket == ticket)
  where
    cases : (b : Bool) → length (cond b more (one ∷ more)) ≤ length (one ∷ more)
    cases true = omega arith
    cases false = omega arith

past_at : (ticket : ℕ) (events : List Stamped) → IsAt ticket events → length (past ticket events) < length events
past_at ticket [] at = absurd at
past_at ticket (one ∷ more) at = subst (λ b. length (cond b more (one ∷ more)) < length (one ∷ more)) (sym (eq-eqb one.ticket ticket at)) (omega arith)

after_shorter : (ticket : ℕ) (walk : List Left) → left_in (after ticket walk) ≤ left_in walk
after_shorter ticket [] = omega arith
after_shorter ticket (one ∷ more) = let here = past_shorter ticket one.events in let rest = after_shorter ticket more in
    let both : length (past ticket one.events) + left_in (after ticket more) ≤ length one.events + left_in more = omega (arith, here, rest) in
    both

after_at : (ticket : ℕ) (walk : List Left) (one : Left) → Contains walk one → IsAt ticket one.events → left_in (after ticket walk) < left_in walk
after_at ticket [] one there at = absurd (not_in_none one there)
after_at ticket (first ∷ more) one there at =
    ⊎_elim
    (λ same. let here = past_at ticket first.events (subst (λ (l : Left). IsAt ticket l.events) (sym same) at) in let rest = after_shorter ticket more in
    let both : length (past ticket first.events) + left_in (after ticket more) < length first.events + left_in more = omega (arith, here, rest) in
    both)
    (λ later. let here = past_shorter ticket first.events in let rest = after_at ticket more one later at in
    let both : length (past ticket first.events) + left_in (after ticket more) < length first.events + left_in more = omega (arith, here, rest) in
    both)
    (Contains-cons_cases first more one there)

pub goes_down : (ticket : ℕ) (walk : List Left) → IsSomeAt ticket walk → left_in (after ticket walk) < left_in walk
goes_down ticket walk some = after_at ticket walk some.0 some.1 some.2
