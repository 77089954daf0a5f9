-- What each of several seats knows, after one of them got another view, or after one came.
use Rattle.std.proofs.Common.{◌≡◌, ◌≢◌, ◌⊎◌, ℕ, zero, suc, List, [], ◌∷◌, ◌++◌, length, set, eqb, refl, sym, ap, subst, inl, inr, ⊎_elim, eq-eqb, ne_eqb}
use mathlib.Core.Option.{some, some-ne-none, some-injective}
use lib.ListN.{get_elem?}
use prog.Atomic.{either}
use Rattle.atomic_table.proofs.Lists.{at_set}

module _ {V : Type 0} (P : ℕ → V → Type 0) where
  pub each_set : (views : List V) (seat : ℕ) (new : V) → ((j : ℕ) (v : V) → j ≢ seat → get_elem? views j ≡ some v → P j v) → P seat new
      → (j : ℕ) (v : V) → get_elem? (set views seat new) j ≡ some v → P j v
  each_set views seat new others mine j v at =
      ⊎_elim
      (λ (here : (j ≡ seat) × (new ≡ v)). subst (λ (z : ℕ × V). P z.0 z.1) (λ i. (sym here.0 i, here.1 i)) mine)
      (λ (there : (j ≢ seat) × (get_elem? views j ≡ some v)). others j v there.0 there.1)
      (at_set views seat j new v at)

  pub each_push : (views : List V) (new : V) → ((j : ℕ) (v : V) → get_elem? views j ≡ some v → P j v) → P (length views) new
      → (j : ℕ) (v : V) → get_elem? (views ++ new ∷ []) j ≡ some v → P j v
  each_push views new others mine j v at =
      ⊎_elim
      (λ (there : get_elem? views j ≡ some v). others j v there)
      (λ (last : (length views ≡ j) × (new ≡ v)). subst (λ (z : ℕ × V). P z.0 z.1) (λ i. (last.0 i, last.1 i)) mine)
      (at_push views j at)
    where
      at_push : (l : List V) (k : ℕ) → get_elem? (l ++ new ∷ []) k ≡ some v → (get_elem? l k ≡ some v) ⊎ ((length l ≡ k) × (new ≡ v))
      at_push [] zero e = inr (refl, some-injective new v e)
      at_push [] (suc k) e = absurd (some-ne-none v (sym e))
      at_push (x ∷ xs) zero e = inl e
      at_push (x ∷ xs) (suc k) e = ⊎_elim (λ there. inl there) (λ last. inr (ap suc last.0, last.1)) (at_push xs k e)

-- another number in place of this one, and all others as they are
abbrev pub turned : ℕ → ℕ → ℕ → ℕ
turned from to n = either (eqb n from) to n

pub turned-here : (from to n : ℕ) → n ≡ from → turned from to n ≡ to
turned-here from to n here = ap (λ b. either b to n) (eq-eqb n from here)

pub turned-other : (from to n : ℕ) → n ≢ from → turned from to n ≡ n
turned-other from to n other = ap (λ b. either b to n) (ne_eqb n from other)
