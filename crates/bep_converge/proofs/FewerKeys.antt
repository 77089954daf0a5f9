-- A finite map whose keys are all in another one has no more of them.
use Rattle.std.proofs.Common.{◌≡◌, ◌∙◌, ◌-◌, ◌≤◌, ℕ, Bool, true, false, cond, List, [], ◌∷◌, length, Contains, Option, None, IsSome, is_some, sym, ap, subst, ⊎_elim, arith}
use Rattle.std.proofs.Math.Dec.{T}
use Rattle.std.proofs.lemmas.Bool.{cases_eq}
use Rattle.std.proofs.lemmas.Cmp.{tied_itself}
use Rattle.std.specs.declared.cmp.Ordering.{Ordering}
use Rattle.std.specs.declared.cmp.Ordering.TheVariants.{Less, Equal}
use Rattle.std.specs.Cmp.{IsTotalOrder}
use Rattle.std.specs.FinMap.{FinMap, IsAntisymmetric, is_sorted, get, remove, len, entries, entries_sorted, get-empty, len-entries, len-remove, empty_of_len}
use Rattle.bep_facts.specs.Maps.{get-remove_apart}
use Rattle.bep_facts.specs.Members.{Contains-first, Contains-more}
use Rattle.bep_facts.specs.Entries.{both_hold, later_is_above, entry_stands}

module _ {K V W : Type 0} {R : K → K → Ordering} (total : IsTotalOrder R) (exact : IsAntisymmetric R) where
  fewer : (es : List (K × V)) → T (is_sorted R es) → (n : FinMap R W) → ((e : K × V) → Contains es e → IsSome (get n e.0)) → length es ≤ len n
  fewer [] sorted n within = omega arith
  fewer (e ∷ more) sorted n within =
      let parts = both_hold _ _ sorted in
      let here : is_some (get n e.0) ≡ true = within e (Contains-first e more) in
      let rest : length more ≤ len (remove n e.0) = fewer more parts.1 (remove n e.0) (λ later stands.
      let above : R e.0 later.0 ≡ Less = later_is_above total exact e.0 more later parts.0 stands in
      let level : R e.0 e.0 ≡ Equal = tied_itself total e.0 in
      subst (λ (o : Option W). IsSome o) (sym (get-remove_apart total exact n e.0 later.0 (λ same. let both : R e.0 e.0 ≡ Less = ap (R e.0) (sym same) ∙ above in cc)))
      (within later (Contains-more e more later stands))) in
      let fewer_left : len (remove n e.0) ≡ len n - 1 = len-remove total n e.0 ∙ ap (λ (b : Bool). cond b (len n - 1) (len n)) here in
      ⊎_elim
      (λ none.
      let gone : get n e.0 ≡ None = ap (λ (m : FinMap R W). get m e.0) (empty_of_len n none) ∙ get-empty {X = W} R e.0 in
      let never : true ≡ false = sym here ∙ ap (λ (o : Option W). is_some o) gone in
      absurd (cc))
      (λ some. omega arith)
      (cases_eq (len n) 0)

  pub len_within : (m : FinMap R V) (n : FinMap R W) → ((key : K) → IsSome (get m key) → IsSome (get n key)) → len m ≤ len n
  len_within m n within =
      subst (λ (k : ℕ). k ≤ len n) (sym (len-entries m))
      (fewer (entries m) (entries_sorted m) n (λ e stands.
      within e.0 (ap (λ (o : Option V). is_some o) ((entry_stands total exact m e.0 e.1).1 stands))))
