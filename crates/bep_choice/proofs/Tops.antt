-- A finite set has a member that no other is above, by any order that can be decided.
use Rattle.std.proofs.Common.{◌≡◌, ◌⊎◌, List, [], ◌∷◌, Contains, refl, sym, subst, inl, inr, ⊎_elim}
use Rattle.bep_facts.specs.Members.{not_in_none, Contains-first, Contains-more, Contains-cons_cases, each_or_one}

module _ {X : Type 0} (V : X → Type 0) (R : X → X → Type 0) where
  -- from a value, one that is at or above it, and that none of the list is above
  pub record IsTop (xs : List X) (from top : X) : Type 0 where
    pub valid : V top
    pub member : (top ≡ from) ⊎ Contains xs top
    pub highest : (z : X) → Contains xs z → V z → ¬ R top z
    pub above : (z : X) → R top z → R from z

  stays : (x : X) (xs : List X) (from : X) → (V x → ¬ R from x) → (top : X) × IsTop xs from top → (top : X) × IsTop (x ∷ xs) from top
  stays x xs from skip t = (
    t.0,
    record {
      valid = t.1.valid;
      member = ⊎_elim (λ same. inl same) (λ more. inr (Contains-more x xs t.0 more)) t.1.member;
      highest = λ z in' v r.
          ⊎_elim
          (λ same. skip (subst V (sym same) v) (t.1.above x (subst (λ w. R t.0 w) (sym same) r)))
          (λ more. t.1.highest z more v r)
          (Contains-cons_cases x xs z in');
      above = t.1.above;
    },
  )

  moves : ((x : X) → ¬ R x x) → ((x y z : X) → R x y → R y z → R x z) → (x : X) (xs : List X) (from : X) → R from x → (top : X) × IsTop xs x top → (top : X) × IsTop (x ∷ xs) from top
  moves irreflexive transitive x xs from up t = (
    t.0,
    record {
      valid = t.1.valid;
      member = inr
          (⊎_elim
          (λ same. subst (λ w. Contains (x ∷ xs) w) (sym same) (Contains-first x xs))
          (λ more. Contains-more x xs t.0 more)
          t.1.member);
      highest = λ z in' v r.
          ⊎_elim
          (λ same. irreflexive x (t.1.above x (subst (λ w. R t.0 w) (sym same) r)))
          (λ more. t.1.highest z more v r)
          (Contains-cons_cases x xs z in');
      above = λ z r. transitive from x z up (t.1.above z r);
    },
  )

  pub top_from : ((x : X) → V x ⊎ (¬ V x)) → ((x y : X) → R x y ⊎ (¬ R x y)) → ((x : X) → ¬ R x x) → ((x y z : X) → R x y → R y z → R x z) → (xs : List X) (from : X) → V from → (top : X) × IsTop xs from top
  top_from decide_V decide_R irreflexive transitive [] from v =
      (from, record { valid = v; member = inl refl; highest = λ z in' _. absurd (not_in_none z in'); above = λ z r. r })
  top_from decide_V decide_R irreflexive transitive (x ∷ xs) from v =
      ⊎_elim
      (λ vx.
      ⊎_elim
      (λ up. moves irreflexive transitive x xs from up (top_from decide_V decide_R irreflexive transitive xs x vx))
      (λ not_up. stays x xs from (λ _. not_up) (top_from decide_V decide_R irreflexive transitive xs from v))
      (decide_R from x))
      (λ not_v. stays x xs from (λ vx. absurd (not_v vx)) (top_from decide_V decide_R irreflexive transitive xs from v))
      (decide_V x)

-- a fact that can be decided holds of each member or not
pub each_or_not : {X : Type 0} (P : X → Type 0) → ((x : X) → P x ⊎ (¬ P x)) → (xs : List X) → ((x : X) → Contains xs x → P x) ⊎ (¬ ((x : X) → Contains xs x → P x))
each_or_not P decide xs = ⊎_elim (λ each. inl each) (λ one. inr (λ each. one.1.1 (each one.0 one.1.0))) (each_or_one P decide xs)
