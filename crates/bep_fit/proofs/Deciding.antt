-- What can be decided of a list: whether something stands in it, and whether it has something of a kind.
use Rattle.std.proofs.Common.{List, [], ◌∷◌, Contains, sym, subst, inl, inr, ⊎_elim}
use Rattle.std.specs.Coded.{Coded}
use Rattle.bep_facts.specs.Decided.{OrNot, same_or_not}
use Rattle.bep_facts.specs.Members.{Contains-cons_cases, Contains-first, Contains-more, not_in_none}

pub stands_or_not : {X : Type 0} → Coded X → (xs : List X) (x : X) → OrNot (Contains xs x)
stands_or_not coded [] x = inr (not_in_none x)
stands_or_not coded (first ∷ more) x =
    ⊎_elim
    (λ same. inl (subst (Contains (first ∷ more)) same (Contains-first first more)))
    (λ apart. ⊎_elim (λ later. inl (Contains-more first more x later)) (λ none. inr (λ stands. ⊎_elim apart none (Contains-cons_cases first more x stands))) (stands_or_not coded more x))
    (same_or_not coded first x)

pub some_or_none : {X : Type 0} (P : X → Type 0) → ((x : X) → OrNot (P x)) → (xs : List X) → OrNot ((x : X) × Contains xs x × P x)
some_or_none P decide [] = inr (λ some. not_in_none some.0 some.1)
some_or_none P decide (first ∷ more) =
    ⊎_elim
    (λ has. inl (first, Contains-first first more, has))
    (λ lacks.
    ⊎_elim
    (λ some. inl (some.0, Contains-more first more some.0 some.1, some.2))
    (λ none. inr (λ some. ⊎_elim (λ same. lacks (subst P (sym same) some.2)) (λ later. none (some.0, later, some.2)) (Contains-cons_cases first more some.0 some.1)))
    (some_or_none P decide more))
    (decide first)
