-- Lists by rising ticket: which there are of given members, and what a filter leaves.
use Rattle.std.proofs.Common.{◌≡◌, ◌⊎◌, ◌↔◌, ◌<◌, ◌≤◌, ℕ, Bool, true, false, cond, List, [], ◌∷◌, Contains, refl, sym, ap, subst, ◌∙◌, inl, inr, ⊎_elim, arith}
use Rattle.std.proofs.lemmas.Bool.{cases_order}
use Rattle.std.specs.List.{filter}
use Rattle.bep_facts.specs.Members.{Contains-cons_cases, Contains-first, Contains-more, not_in_none}
use Rattle.bep_fit.specs.Merge.{Rises}

-- ---- what a filter leaves

module _ {E : Type 0} (p : E → Bool) where
  pub kept-passes : (list : List E) (one : E) → Contains (filter p list) one → Contains list one × (p one ≡ true)
  kept-passes [] one stands = absurd (not_in_none one stands)
  kept-passes (first ∷ more) one stands = cases (p first) refl (λ kept. kept-passes more one kept) stands
    where
      later : (Contains (filter p more) one → Contains more one × (p one ≡ true)) → Contains (filter p more) one → Contains (first ∷ more) one × (p one ≡ true)
      later found kept = (Contains-more first more one (found kept).0, (found kept).1)

      cases : (b : Bool) → p first ≡ b → (Contains (filter p more) one → Contains more one × (p one ≡ true)) → Contains (cond b (first ∷ filter p more) (filter p more)) one → Contains (first ∷ more) one × (p one ≡ true)
      cases true is found stands =
          ⊎_elim
          (λ same. (subst (Contains (first ∷ more)) same (Contains-first first more), subst (λ z. p z ≡ true) same is))
          (later found)
          (Contains-cons_cases first (filter p more) one stands)
      cases false is found stands = later found stands

  pub passes-kept : (list : List E) (one : E) → Contains list one → p one ≡ true → Contains (filter p list) one
  passes-kept [] one stands passes = absurd (not_in_none one stands)
  passes-kept (first ∷ more) one stands passes = cases (p first) refl (λ later. passes-kept more one later passes) (Contains-cons_cases first more one stands)
    where
      cases : (b : Bool) → p first ≡ b → (Contains more one → Contains (filter p more) one) → (first ≡ one) ⊎ Contains more one → Contains (cond b (first ∷ filter p more) (filter p more)) one
      cases true is kept (inl same) = subst (Contains (first ∷ filter p more)) same (Contains-first first (filter p more))
      cases true is kept (inr later) = Contains-more first (filter p more) one (kept later)
      cases false is kept (inl same) = absurd (let never : true ≡ false = sym passes ∙ (ap p (sym same) ∙ is) in cc)
      cases false is kept (inr later) = kept later

module _ {E : Type 0} (ticket : E → ℕ) where
  pub kept-rises : (p : E → Bool) (list : List E) → Rises ticket list → Rises ticket (filter p list)
  kept-rises p [] rises = tt
  kept-rises p (first ∷ more) rises = cases (p first) (kept-rises p more rises.1)
    where
      cases : (b : Bool) → Rises ticket (filter p more) → Rises ticket (cond b (first ∷ filter p more) (filter p more))
      cases true rest = (λ later stands. rises.0 later (kept-passes p more later stands).0, rest)
      cases false rest = rest

  -- ---- one list has given members

  -- what stands in a list that rises has no ticket below the first one's
  least_first : (first : E) (more : List E) → Rises ticket (first ∷ more) → (one : E) → Contains (first ∷ more) one → ticket first ≤ ticket one
  least_first first more rises one stands =
      ⊎_elim
      (λ (same : first ≡ one). omega (arith, ap ticket same))
      (λ later. omega (arith, rises.0 one later))
      (Contains-cons_cases first more one stands)

  -- each member of what follows the first one is one of what follows the other first one
  rest_same : (first : E) (more rest : List E) → Rises ticket (first ∷ more) → ((one : E) → Contains (first ∷ more) one → Contains (first ∷ rest) one) → (one : E) → Contains more one → Contains rest one
  rest_same first more rest rises same one stands =
      ⊎_elim
      (λ (is : first ≡ one). absurd (omega (arith, rises.0 one stands, ap ticket is)))
      (λ later. later)
      (Contains-cons_cases first rest one (same one (Contains-more first more one stands)))

  -- two first ones are the same, where each stands in the other's list
  first_same : (first : E) (more : List E) (other : E) (rest : List E) → Rises ticket (first ∷ more) → Rises ticket (other ∷ rest) → Contains (other ∷ rest) first → Contains (first ∷ more) other → first ≡ other
  first_same first more other rest rises rising here there =
      ⊎_elim
      (λ same. sym same)
      (λ later. absurd (omega (arith, rising.0 first later, least_first first more rises other there)))
      (Contains-cons_cases other rest first here)

  pub one_rising : (one other : List E) → Rises ticket one → Rises ticket other → ((z : E) → Contains one z ↔ Contains other z) → one ≡ other
  one_rising [] [] rises rising same = refl
  one_rising [] (other ∷ rest) rises rising same = absurd (not_in_none other ((same other).1 (Contains-first other rest)))
  one_rising (first ∷ more) [] rises rising same = absurd (not_in_none first ((same first).0 (Contains-first first more)))
  one_rising (first ∷ more) (other ∷ rest) rises rising same =
      let is : first ≡ other = first_same first more other rest rises rising ((same first).0 (Contains-first first more)) ((same other).1 (Contains-first other rest)) in
      let rising_too : Rises ticket (first ∷ rest) = subst (λ z. Rises ticket (z ∷ rest)) (sym is) rising in
      let same_too : (z : E) → Contains (first ∷ more) z ↔ Contains (first ∷ rest) z = subst (λ y. (z : E) → Contains (first ∷ more) z ↔ Contains (y ∷ rest) z) (sym is) same in
      let after : more ≡ rest = one_rising more rest rises.1 rising.1 (λ z. (rest_same first more rest rises (λ y. (same_too y).0) z, rest_same first rest more rising_too (λ y. (same_too y).1) z)) in
      ap (λ z. z ∷ more) is ∙ ap (λ zs. other ∷ zs) after

  -- one event has a ticket
  pub rises-one : (list : List E) → Rises ticket list → (one other : E) → Contains list one → Contains list other → ticket one ≡ ticket other → one ≡ other
  rises-one [] rises one other here there same = absurd (not_in_none one here)
  rises-one (first ∷ more) rises one other here there same =
      ⊎_elim
      (λ is.
      ⊎_elim
      (λ too. sym is ∙ too)
      (λ later. absurd (let above = rises.0 other later in let tied : ticket first ≡ ticket one = ap ticket is in omega (arith, above, tied, same)))
      (Contains-cons_cases first more other there))
      (λ later.
      ⊎_elim
      (λ is. absurd (let above = rises.0 one later in let tied : ticket first ≡ ticket other = ap ticket is in omega (arith, above, tied, same)))
      (λ too. rises-one more rises.1 one other later too same)
      (Contains-cons_cases first more other there))
      (Contains-cons_cases first more one here)

  -- ---- there is one of given members

  -- the list holds what the other one holds, and this
  abbrev Gains : List E → E → List E → Type 0
  Gains old one new = (z : E) → Contains new z ↔ ((one ≡ z) ⊎ Contains old z)

  -- a list that rises and gains the event
  abbrev Put : E → List E → Type 0
  Put one old = (new : List E) × Rises ticket new × Gains old one new

  put_before : (one first : E) (more : List E) → Rises ticket (first ∷ more) → ticket one < ticket first → Put one (first ∷ more)
  put_before one first more rises below = (
    one ∷ first ∷ more,
    (λ later stands. let least = least_first first more rises later stands in omega (arith, below, least), rises),
    λ z. (Contains-cons_cases one (first ∷ more) z, ⊎_elim (λ same. subst (Contains (one ∷ first ∷ more)) same (Contains-first one (first ∷ more))) (λ stands. Contains-more one (first ∷ more) z stands)),
  )

  put_here : (one first : E) (more : List E) → Rises ticket (first ∷ more) → one ≡ first → Put one (first ∷ more)
  put_here one first more rises is = (
    first ∷ more,
    rises,
    λ z. (λ stands. inr stands, ⊎_elim (λ same. subst (Contains (first ∷ more)) (sym is ∙ same) (Contains-first first more)) (λ stands. stands)),
  )

  -- the event goes into what follows the first one
  put_after : (one first : E) (more : List E) → Rises ticket (first ∷ more) → ticket first < ticket one → Put one more → Put one (first ∷ more)
  put_after one first more rises above (rest, rising, gains) = (
    first ∷ rest,
    (λ later stands. ⊎_elim (λ same. subst (λ z. ticket first < ticket z) same above) (λ old. rises.0 later old) ((gains later).0 stands), rising),
    λ z. (
      λ stands. ⊎_elim (λ same. inr (subst (Contains (first ∷ more)) same (Contains-first first more))) (λ later. ⊎_elim (λ same. inl same) (λ old. inr (Contains-more first more z old)) ((gains z).0 later)) (Contains-cons_cases first rest z stands),
      ⊎_elim
          (λ same. Contains-more first rest z ((gains z).1 (inl same)))
          (λ stands. ⊎_elim (λ same. subst (Contains (first ∷ rest)) same (Contains-first first rest)) (λ old. Contains-more first rest z ((gains z).1 (inr old))) (Contains-cons_cases first more z stands)),
    ),
  )

  -- an event goes into a list that rises, once
  put_in : (one : E) (list : List E) → Rises ticket list → ((other : E) → Contains list other → ticket one ≡ ticket other → one ≡ other) → Put one list
  put_in one [] rises agree = (
    one ∷ [],
    (λ later stands. absurd (not_in_none later stands), tt),
    λ z. (Contains-cons_cases one [] z, ⊎_elim (λ same. subst (Contains (one ∷ [])) same (Contains-first one [])) (λ never. absurd (not_in_none z never))),
  )
  put_in one (first ∷ more) rises agree =
      let rest = put_in one more rises.1 (λ other stands. agree other (Contains-more first more other stands)) in
      ⊎_elim
      (λ tied. put_here one first more rises (agree first (Contains-first first more) tied))
      (⊎_elim (put_before one first more rises) (λ above. put_after one first more rises above rest))
      (cases_order (ticket one) (ticket first))

  -- no two of them have one ticket
  abbrev pub HaveTickets : List E → Type 0
  HaveTickets list = (one other : E) → Contains list one → Contains list other → ticket one ≡ ticket other → one ≡ other

  pub some_rising : (list : List E) → HaveTickets list → (new : List E) × Rises ticket new × ((z : E) → Contains new z ↔ Contains list z)
  some_rising [] apart = ([], tt, λ z. (λ stands. stands, λ stands. stands))
  some_rising (one ∷ more) apart =
      let rest = some_rising more (λ a b x y. apart a b (Contains-more one more a x) (Contains-more one more b y)) in
      let put = put_in one rest.0 rest.1 (λ other stands. apart one other (Contains-first one more) (Contains-more one more other ((rest.2 other).0 stands))) in (
        put.0,
        put.1,
        λ z. (
          λ stands. ⊎_elim (λ same. subst (Contains (one ∷ more)) same (Contains-first one more)) (λ old. Contains-more one more z ((rest.2 z).0 old)) ((put.2 z).0 stands),
          λ stands. (put.2 z).1 (⊎_elim (λ same. inl same) (λ later. inr ((rest.2 z).1 later)) (Contains-cons_cases one more z stands)),
        ),
      )
