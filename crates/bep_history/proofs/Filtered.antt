-- What a test keeps of a list.
use Rattle.std.proofs.Common.{◌≡◌, ◌⊎◌, Bool, true, false, if◌then◌else◌, List, [], ◌∷◌, ◌++◌, Contains, sym, ap, ◌∙◌, subst, inl, inr, ⊎_elim, refl}
use Rattle.std.specs.List.{filter}
use Rattle.std.proofs.lemmas.List.{append-nil}
use Rattle.std.proofs.lemmas.List.Elements.{filter-append}
use Rattle.bep_facts.specs.Members.{Contains-cons_cases, Contains-first, Contains-more, not_in_none}

module _ {E : Type 0} (p : E → Bool) where
  pub kept-passes : (list : List E) (one : E) → Contains (filter p list) one → Contains list one × (p one ≡ true)
  kept-passes [] one stands = absurd (not_in_none one stands)
  kept-passes (first ∷ more) one stands = cases (p first) refl (λ kept. kept-passes more one kept) stands
    where
      later : (Contains (filter p more) one → Contains more one × (p one ≡ true)) → Contains (filter p more) one → Contains (first ∷ more) one × (p one ≡ true)
      later found kept = (Contains-more first more one (found kept).0, (found kept).1)

      cases : (b : Bool) → p first ≡ b → (Contains (filter p more) one → Contains more one × (p one ≡ true)) → Contains (if b then first ∷ filter p more else filter p more) one → Contains (first ∷ more) one × (p one ≡ true)
      cases true is found stands =
          ⊎_elim
          (λ same. (subst (Contains (first ∷ more)) same (Contains-first first more), subst (λ z. p z ≡ true) same is))
          (later found)
          (Contains-cons_cases first (filter p more) one stands)
      cases false is found stands = later found stands

  pub passes-kept : (list : List E) (one : E) → Contains list one → p one ≡ true → Contains (filter p list) one
  passes-kept [] one stands passes = absurd (not_in_none one stands)
  passes-kept (first ∷ more) one stands passes = cases (p first) refl (λ later. passes-kept more one later passes) (Contains-cons_cases first more one stands)
    where
      cases : (b : Bool) → p first ≡ b → (Contains more one → Contains (filter p more) one) → (first ≡ one) ⊎ Contains more one → Contains (if b then first ∷ filter p more else filter p more) one
      cases true is kept (inl same) = subst (Contains (first ∷ filter p more)) same (Contains-first first (filter p more))
      cases true is kept (inr later) = Contains-more first (filter p more) one (kept later)
      cases false is kept (inl same) = absurd (let never : true ≡ false = sym passes ∙ (ap p (sym same) ∙ is) in cc)
      cases false is kept (inr later) = kept later

  -- one more at the end
  pub filter-push : (list : List E) (one : E) → filter p (list ++ one ∷ []) ≡ (if p one then filter p list ++ one ∷ [] else filter p list)
  filter-push list one = filter-append p list (one ∷ []) ∙ cases (p one)
    where
      cases : (b : Bool) → filter p list ++ (if b then one ∷ [] else []) ≡ (if b then filter p list ++ one ∷ [] else filter p list)
      cases true = refl
      cases false = append-nil (filter p list)

  pub filter-push_other : (list : List E) (one : E) → p one ≡ false → filter p (list ++ one ∷ []) ≡ filter p list
  filter-push_other list one not = filter-push list one ∙ ap (λ (b : Bool). if b then filter p list ++ one ∷ [] else filter p list) not
