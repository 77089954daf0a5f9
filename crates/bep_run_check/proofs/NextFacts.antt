-- Which event comes next on the walk.
use Rattle.std.proofs.Common.{◌≡◌, ◌⊎◌, ◌≤◌, Bool, true, false, cond, List, [], ◌∷◌, Option, Some, None, Contains, fold, nat_lt, refl, sym, ap, ◌∙◌, inl, inr, ⊎_elim, arith, ltb-true, ltb-false}
use Rattle.std.proofs.lemmas.Bool.{cases_Bool}
use Rattle.bep_facts.specs.Members.{Contains-cons_cases, Contains-first, Contains-more, not_in_none}
use Rattle.bep_fit.specs.declared.stamped.Stamped.{Stamped}
use Rattle.bep_fit.specs.Walk.{IsNext, Left}
use Rattle.bep_run_check.specs.inner.Next.{first_of, lesser, next_of}

some_is : (one other : Stamped) → Some one ≡ Some other → one ≡ other
some_is one other is = cc

-- ---- the lesser of two

-- it is one of them
lesser_from : (one other : Option Stamped) (event : Stamped) → lesser one other ≡ Some event → (one ≡ Some event) ⊎ (other ≡ Some event)
lesser_from None other event is = inr is
lesser_from (Some first) None event is = inl is
lesser_from (Some first) (Some second) event is = cases (nat_lt second.ticket first.ticket) is
  where
    cases : (b : Bool) → cond b (Some second) (Some first) ≡ Some event → (Some first ≡ Some event) ⊎ (Some second ≡ Some event)
    cases true same = inr same
    cases false same = inl same

-- and is above none of them
abbrev IsBoundBy : Stamped → Option Stamped → Type 0
IsBoundBy event found = (least : Stamped) × (found ≡ Some least) × (least.ticket ≤ event.ticket)

lesser_below : (one other : Option Stamped) (event : Stamped) → (one ≡ Some event) ⊎ (other ≡ Some event) → IsBoundBy event (lesser one other)
lesser_below None other event (inl is) = absurd (cc)
lesser_below None other event (inr is) = (event, is, omega arith)
lesser_below (Some first) None event (inl is) = (event, is, omega arith)
lesser_below (Some first) None event (inr is) = absurd (cc)
lesser_below (Some first) (Some second) event which = ⊎_elim below above (cases_Bool (nat_lt second.ticket first.ticket))
  where
    below : nat_lt second.ticket first.ticket ≡ true → IsBoundBy event (lesser (Some first) (Some second))
    below is =
        let less = ltb-true second.ticket first.ticket is in (
          second,
          ap (λ b. cond b (Some second) (Some first)) is,
          ⊎_elim
              (λ at. let same : first.ticket ≡ event.ticket = ap (λ (e : Stamped). e.ticket) (some_is first event at) in omega (arith, less, same))
              (λ at. let same : second.ticket ≡ event.ticket = ap (λ (e : Stamped). e.ticket) (some_is second event at) in omega (arith, same))
              which,
        )

    above : nat_lt second.ticket first.ticket ≡ false → IsBoundBy event (lesser (Some first) (Some second))
    above is =
        let least = ltb-false second.ticket first.ticket is in (
          first,
          ap (λ b. cond b (Some second) (Some first)) is,
          ⊎_elim
              (λ at. let same : first.ticket ≡ event.ticket = ap (λ (e : Stamped). e.ticket) (some_is first event at) in omega (arith, same))
              (λ at. let same : second.ticket ≡ event.ticket = ap (λ (e : Stamped). e.ticket) (some_is second event at) in omega (arith, least, same))
              which,
        )

lesser_none : (one other : Option Stamped) → lesser one other ≡ None → (one ≡ None) × (other ≡ None)
lesser_none None other is = (refl, is)
lesser_none (Some first) None is = absurd (cc)
lesser_none (Some first) (Some second) is = absurd (cases (nat_lt second.ticket first.ticket) is)
  where
    cases : (b : Bool) → cond b (Some second) (Some first) ≡ None → ⊥
    cases true never = cc
    cases false never = cc

-- ---- the least of all

first_is : (events : List Stamped) (event : Stamped) → first_of events ≡ Some event → (more : List Stamped) × (events ≡ event ∷ more)
first_is [] event is = absurd (cc)
first_is (next ∷ more) event is = (more, ap (λ e. e ∷ more) (some_is next event is))

none_first : (events : List Stamped) → first_of events ≡ None → events ≡ []
none_first [] is = refl
none_first (next ∷ more) is = absurd (cc)

abbrev pub least_from : Option Stamped → List Left → Option Stamped
least_from least walk = fold (λ (o : Option Stamped) (one : Left). lesser o (first_of one.events)) least walk

-- it comes next in some log
abbrev IsFirstIn : List Left → Stamped → Type 0
IsFirstIn walk event = (one : Left) × (more : List Stamped) × Contains walk one × (one.events ≡ event ∷ more)

least_is : (least : Option Stamped) (walk : List Left) (event : Stamped) → least_from least walk ≡ Some event → (least ≡ Some event) ⊎ IsFirstIn walk event
least_is least [] event is = inl is
least_is least (one ∷ more) event is =
    ⊎_elim
    (λ here. ⊎_elim
    (λ old. inl old)
    (λ first. let found = first_is one.events event first in inr (one, found.0, Contains-first one more, found.1))
    (lesser_from least (first_of one.events) event here))
    (λ later. inr (later.0, later.1, Contains-more one more later.0 later.2, later.3))
    (least_is (lesser least (first_of one.events)) more event is)

-- it is not above this one, if it is found
abbrev IsAtMost : Option Stamped → Stamped → Type 0
IsAtMost found event = (one : Stamped) → found ≡ Some one → one.ticket ≤ event.ticket

at_most_start : (least : Option Stamped) (walk : List Left) (event : Stamped) → least ≡ Some event → IsBoundBy event (least_from least walk)
at_most_start least [] event is = (event, is, omega arith)
at_most_start least (one ∷ more) event is =
    let here = lesser_below least (first_of one.events) event (inl is) in
    let rest = at_most_start (lesser least (first_of one.events)) more here.0 here.1 in
    (rest.0, rest.1, omega (arith, rest.2, here.2))

at_most_each : (least : Option Stamped) (walk : List Left) (one : Left) (next : Stamped) (left : List Stamped) → Contains walk one → one.events ≡ next ∷ left → IsBoundBy next (least_from least walk)
at_most_each least [] one next left there is = absurd (not_in_none one there)
at_most_each least (first ∷ more) one next left there is =
    ⊎_elim
    (λ same.
    let here = lesser_below least (first_of first.events) next (inr (ap first_of (ap (λ (l : Left). l.events) same ∙ is))) in
    let rest = at_most_start (lesser least (first_of first.events)) more here.0 here.1 in
    (rest.0, rest.1, omega (arith, rest.2, here.2)))
    (λ later. at_most_each (lesser least (first_of first.events)) more one next left later is)
    (Contains-cons_cases first more one there)

bound_at : (found : Option Stamped) (event next : Stamped) → found ≡ Some event → IsBoundBy next found → event.ticket ≤ next.ticket
bound_at found event next is bound =
    let same : event.ticket ≡ bound.0.ticket = ap (λ (e : Stamped). e.ticket) (some_is event bound.0 (sym is ∙ bound.1)) in
    omega (arith, same, bound.2)

pub next_is : (walk : List Left) (event : Stamped) → next_of walk ≡ Some event → IsNext walk event
next_is walk event is = record {
  some = ⊎_elim (λ none. absurd (cc)) (λ found. found) (least_is None walk event is);
  least = λ one next more there begins. bound_at (next_of walk) event next is (at_most_each None walk one next more there begins);
}

none_from : (least : Option Stamped) (walk : List Left) → least_from least walk ≡ None → (least ≡ None) × ((one : Left) → Contains walk one → one.events ≡ [])
none_from least [] is = (is, λ one there. absurd (not_in_none one there))
none_from least (first ∷ more) is =
    let rest = none_from (lesser least (first_of first.events)) more is in
    let both = lesser_none least (first_of first.events) rest.0 in (
      both.0,
      λ one there.
          ⊎_elim
          (λ same. ap (λ (l : Left). l.events) (sym same) ∙ none_first first.events both.1)
          (λ later. rest.1 one later)
          (Contains-cons_cases first more one there),
    )

pub none_left : (walk : List Left) → next_of walk ≡ None → (one : Left) → Contains walk one → one.events ≡ []
none_left walk is = (none_from None walk is).1
