-- The order of version vectors, of any lists of counters.
use Rattle.std.proofs.Common.{◌≡◌, ◌⊎◌, ◌≤◌, ℕ, List, [], ◌∷◌, refl, subst, inl, inr, ⊎_elim, arith}
use Rattle.std.proofs.lemmas.Bool.{cases_eq, cases_lt, cond-false, ne_eqb}
use Rattle.bep_record.specs.Vector.{counter_of, IsAtMost, IsBelow}

-- the list has a counter of this id
Mentions : List (ℕ × ℕ) → ℕ → Type 0
Mentions [] id = ⊥
Mentions (counter ∷ more) id = (counter.0 ≡ id) ⊎ Mentions more id

mentioned_or_zero : (u : List (ℕ × ℕ)) (id : ℕ) → Mentions u id ⊎ (counter_of u id ≡ 0)
unfolding Mentions
mentioned_or_zero [] id = inr refl
mentioned_or_zero (counter ∷ more) id =
    ⊎_elim
    (λ same. inl (inl same))
    (λ differs. ⊎_elim (λ m. inl (inr m)) (λ none. inr (let past = cond-false _ counter.1 (counter_of more id) (ne_eqb counter.0 id differs) in omega (arith, past))) (mentioned_or_zero more id))
    (cases_eq counter.0 id)

-- at each id of the list, or not at all
at_most_within : (ids u v : List (ℕ × ℕ)) → ((id : ℕ) → Mentions ids id → counter_of u id ≤ counter_of v id) ⊎ (¬ IsAtMost u v)
unfolding Mentions
at_most_within [] u v = inl (λ id m. absurd m)
at_most_within (counter ∷ ids) u v =
    ⊎_elim
    (λ more.
    ⊎_elim
    (λ less. inr (λ all. let here = all counter.0 in omega (arith, here)))
    (λ here. inl (λ id m. ⊎_elim (λ same. let P : ℕ → Type 0 = λ i. counter_of u i ≤ counter_of v i in subst P same here) (λ m'. more id m') m))
    (cases_lt (counter_of v counter.0) (counter_of u counter.0)))
    (λ fails. inr fails)
    (at_most_within ids u v)

pub at_most_or_not : (u v : List (ℕ × ℕ)) → IsAtMost u v ⊎ (¬ IsAtMost u v)
at_most_or_not u v =
    ⊎_elim
    (λ each. inl (λ id. ⊎_elim (λ m. each id m) (λ none. omega (arith, none)) (mentioned_or_zero u id)))
    (λ fails. inr fails)
    (at_most_within u u v)

at_most_then : (u v w : List (ℕ × ℕ)) → IsAtMost u v → IsAtMost v w → IsAtMost u w
at_most_then u v w h k id = let a = h id in let b = k id in omega (arith, a, b)

pub below_or_not : (u v : List (ℕ × ℕ)) → IsBelow u v ⊎ (¬ IsBelow u v)
below_or_not u v =
    ⊎_elim
    (λ up. ⊎_elim (λ down. inr (λ below. below.1 down)) (λ not_down. inl (up, not_down)) (at_most_or_not v u))
    (λ not_up. inr (λ below. not_up below.0))
    (at_most_or_not u v)

pub not_below_itself : (u : List (ℕ × ℕ)) → ¬ IsBelow u u
not_below_itself u below = below.1 below.0

pub below_then : (u v w : List (ℕ × ℕ)) → IsBelow u v → IsBelow v w → IsBelow u w
below_then u v w h k = (at_most_then u v w h.0 k.0, λ down. k.1 (at_most_then w u v down h.0))
