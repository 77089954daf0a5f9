-- What orders answer, and the order of pairs of texts.
use Rattle.std.proofs.Common.{◌≡◌, ◌⊎◌, ◌∙◌, ℕ, true, List, refl, sym, ap, inl, inr}
use Rattle.std.specs.declared.cmp.Ordering.{Ordering}
use Rattle.std.specs.declared.cmp.Ordering.TheVariants.{Less, Equal, Greater}
use Rattle.std.specs.Ordering.{nat_cmp, is_lt, on, then_cmp, ordering_then}
use Rattle.std.specs.Cmp.{IsTotalOrder}
use Rattle.std.specs.Cmp.Lexicographic.{slice_cmp}
use Rattle.std.proofs.lemmas.Cmp.{tied_itself, then_total, on_total, nat_list_cmp_total}
use Rattle.std.proofs.lemmas.Map.Lookups.{exact_pairs, exact_bytes}

pub order_cases : (o : Ordering) → (o ≡ Less) ⊎ ((o ≡ Equal) ⊎ (o ≡ Greater))
order_cases Less = inl refl
order_cases Equal = inr (inl refl)
order_cases Greater = inr (inr refl)

pub Less_from_is_lt : (o : Ordering) → is_lt o ≡ true → o ≡ Less
Less_from_is_lt Less e = refl
Less_from_is_lt Equal e = absurd (cc)
Less_from_is_lt Greater e = absurd (cc)

-- one order and then another tie where both tie
pub both_tied : (o p : Ordering) → ordering_then o p ≡ Equal → (o ≡ Equal) × (p ≡ Equal)
both_tied Less p e = absurd (cc)
both_tied Equal p e = (refl, e)
both_tied Greater p e = absurd (cc)

module _ {K : Type 0} {R : K → K → Ordering} (total : IsTotalOrder R) where
  -- what is the same ties
  pub Equal_from_same : (one other : K) → one ≡ other → R one other ≡ Equal
  Equal_from_same one other same = sym (ap (R one) same) ∙ tied_itself total one

  -- nothing is below itself
  pub not_less_itself : (one : K) → ¬ (R one one ≡ Less)
  not_less_itself one less = let tied = tied_itself total one in cc

-- ---- pairs of texts, by the first and then the second, each by its bytes

abbrev Texts : Type 0
Texts = List ℕ × List ℕ

abbrev by_texts : Texts → Texts → Ordering
by_texts = then_cmp (on (λ key. key.0) (slice_cmp nat_cmp)) (on (λ key. key.1) (slice_cmp nat_cmp))

pub texts_total : IsTotalOrder by_texts
texts_total = then_total (on_total (λ (key : Texts). key.0) nat_list_cmp_total) (on_total (λ (key : Texts). key.1) nat_list_cmp_total)

-- only equal pairs tie
pub texts_exact : (one other : Texts) → by_texts one other ≡ Equal → one ≡ other
texts_exact = exact_pairs (slice_cmp nat_cmp) (slice_cmp nat_cmp) exact_bytes exact_bytes
