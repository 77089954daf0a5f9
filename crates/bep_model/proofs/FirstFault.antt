-- Of places at which something fails, finitely many, there is a first.
use Rattle.std.proofs.Common.{◌≡◌, ◌⊎◌, List, [], ◌∷◌, Contains, sym, ap, subst, ◌∙◌, inl, inr, ⊎_elim}
use Rattle.std.specs.declared.cmp.Ordering.{Ordering}
use Rattle.std.specs.declared.cmp.Ordering.TheVariants.{Less, Equal, Greater}
use Rattle.std.specs.Ordering.{ordering_reverse}
use Rattle.std.specs.Cmp.{IsTotalOrder}
use Rattle.std.proofs.lemmas.Cmp.{alike_right}
use Rattle.bep_facts.specs.Members.{not_in_none, Contains-cons_cases, each_or_one}
use Rattle.bep_facts.specs.Orders.{order_cases, not_less_itself}
use Rattle.bep_facts.specs.Decided.{OrNot}

module _ {X : Type 0} (R : X → X → Ordering) (total : IsTotalOrder R) (A : X → Type 0) (decide : (x : X) → OrNot (A x)) where
  -- it fails here, and at no earlier member of the list; and `from` isn't earlier
  record IsLowest (xs : List X) (from lowest : X) : Type 0 where
    fails : ¬ A lowest
    not_later : ¬ (R from lowest ≡ Less)
    least : (x : X) → Contains xs x → ¬ A x → ¬ (R x lowest ≡ Less)

  Lowest : List X → X → Type 0
  Lowest xs from = (lowest : X) × IsLowest xs from lowest

  -- what comes before the lowest comes before what isn't earlier than the lowest
  before_lowest : (x from lowest : X) → ¬ (R from lowest ≡ Less) → R x lowest ≡ Less → R x from ≡ Less
  before_lowest x from lowest not_later less =
      ⊎_elim
      (λ earlier. absurd (not_later earlier))
      (⊎_elim
      (λ tied. alike_right total from lowest x tied ∙ less)
      (λ later. total.trans x lowest from less (total.antisymm lowest from ∙ ap ordering_reverse later)))
      (order_cases (R from lowest))

  keeps : (x : X) (xs : List X) (from : X) → ((¬ A x) → ¬ (R x from ≡ Less)) → Lowest xs from → Lowest (x ∷ xs) from
  unfolding Lowest
  keeps x xs from skip found = (
    found.0,
    record {
      fails = found.1.fails;
      not_later = found.1.not_later;
      least = λ z member fails less.
          ⊎_elim
          (λ same. skip (subst (λ w. ¬ A w) (sym same) fails) (before_lowest x from found.0 found.1.not_later (subst (λ w. R w found.0 ≡ Less) (sym same) less)))
          (λ more. found.1.least z more fails less)
          (Contains-cons_cases x xs z member);
    },
  )

  takes : (x : X) (xs : List X) (from : X) → R x from ≡ Less → Lowest xs x → Lowest (x ∷ xs) from
  unfolding Lowest
  takes x xs from earlier found = (
    found.0,
    record {
      fails = found.1.fails;
      not_later = λ less. found.1.not_later (total.trans x from found.0 earlier less);
      least = λ z member fails less.
          ⊎_elim
          (λ same. found.1.not_later (subst (λ w. R w found.0 ≡ Less) (sym same) less))
          (λ more. found.1.least z more fails less)
          (Contains-cons_cases x xs z member);
    },
  )

  lowest_from : (xs : List X) (from : X) → ¬ A from → Lowest xs from
  unfolding Lowest
  lowest_from [] from fails =
      (from, record { fails = fails; not_later = not_less_itself total from; least = λ x member. absurd (not_in_none x member) })
  lowest_from (x ∷ xs) from fails =
      ⊎_elim
      (λ holds. keeps x xs from (λ fails_here. absurd (fails_here holds)) (lowest_from xs from fails))
      (λ fails_here.
      ⊎_elim
      (λ less. takes x xs from less (lowest_from xs x fails_here))
      (λ others. keeps x xs from (λ _ less. ⊎_elim (λ e. let f : Equal ≡ Less = sym e ∙ less in cc) (λ e. let f : Greater ≡ Less = sym e ∙ less in cc) others) (lowest_from xs from fails))
      (order_cases (R x from)))
      (decide x)

  -- where all that fails is in a list, nothing fails or there is a first that does
  pub holds_or_first : (xs : List X) → ((x : X) → ¬ A x → Contains xs x) → ((x : X) → A x) ⊎ ((first : X) × (¬ A first × ((x : X) → R x first ≡ Less → A x)))
  unfolding Lowest
  holds_or_first xs covers =
      ⊎_elim
      (λ each. inl (λ x. ⊎_elim (λ holds. holds) (λ fails. each x (covers x fails)) (decide x)))
      (λ one.
      let found = lowest_from xs one.0 one.1.1 in
      inr (found.0, (found.1.fails, λ x less. ⊎_elim (λ holds. holds) (λ fails. absurd (found.1.least x (covers x fails) fails less)) (decide x))))
      (each_or_one A decide xs)
