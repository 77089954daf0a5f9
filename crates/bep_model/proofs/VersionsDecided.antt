-- Versions can be compared: the ids of the one list decide.
use Rattle.std.proofs.Common.{◌≡◌, ◌⊎◌, ◌≤◌, ℕ, List, [], ◌∷◌, Contains, refl, subst, inl, inr, ⊎_elim, arith}
use Rattle.std.proofs.lemmas.Bool.{cases_eq, cases_lt, cond-false, ne_eqb}
use Rattle.bep_facts.specs.Members.{Contains-first, Contains-more}
use Rattle.bep_record.specs.Vector.{counter_of, IsAtMost, IsBelow}
use Rattle.bep_facts.specs.Decided.{OrNot, both_or_not, not_or_not, or_not_as}
use Rattle.bep_model.proofs.Deciding.{finite_list, each_in}

-- the list has a counter of the id, or its counter is 0
counter_or_zero : (v : List (ℕ × ℕ)) (id : ℕ) → ((counter : ℕ × ℕ) × (Contains v counter × (counter.0 ≡ id))) ⊎ (counter_of v id ≡ 0)
counter_or_zero [] id = inr refl
counter_or_zero (counter ∷ more) id =
    ⊎_elim
    (λ same. inl (counter, (Contains-first counter more, same)))
    (λ differs.
    ⊎_elim
    (λ later. inl (later.0, (Contains-more counter more later.0 later.1.0, later.1.1)))
    (λ none. inr (let past = cond-false _ counter.1 (counter_of more id) (ne_eqb counter.0 id differs) in omega (arith, past)))
    (counter_or_zero more id))
    (cases_eq counter.0 id)

le_or_not : (a b : ℕ) → OrNot (a ≤ b)
le_or_not a b = ⊎_elim (λ less. inr (λ le. omega arith)) (λ le. inl le) (cases_lt b a)

at_most_or_not : (u v : List (ℕ × ℕ)) → OrNot (IsAtMost u v)
at_most_or_not u v =
    or_not_as
    (λ (each : (counter : ℕ × ℕ) → Contains u counter → counter_of u counter.0 ≤ counter_of v counter.0). λ id.
    ⊎_elim
    (λ some. subst (λ (i : ℕ). counter_of u i ≤ counter_of v i) some.1.1 (each some.0 some.1.0))
    (λ zero. omega (arith, zero))
    (counter_or_zero u id))
    (λ all counter member. all counter.0)
    (each_in (Contains u) (λ (counter : ℕ × ℕ). counter_of u counter.0 ≤ counter_of v counter.0) (finite_list u) (λ counter. le_or_not _ _))

pub below_or_not : (u v : List (ℕ × ℕ)) → OrNot (IsBelow u v)
below_or_not u v = both_or_not (at_most_or_not u v) (not_or_not (at_most_or_not v u))
