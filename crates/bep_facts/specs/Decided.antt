-- Facts that can be decided.
use Rattle.std.proofs.Common.{◌≡◌, ◌⊎◌, Bool, true, false, refl, ap, inl, inr, ⊎_elim}
use Rattle.std.proofs.lemmas.Bool.{cases_eq}
use Rattle.std.specs.Coded.{Coded}
use base.Stored.{Gv, gnil, gnum, gcons, num}

-- the fact holds, or it doesn't
abbrev pub OrNot : Type 0 → Type 0
OrNot A = A ⊎ (¬ A)

pub both_or_not : {A B : Type 0} → OrNot A → OrNot B → OrNot (A × B)
both_or_not a b = ⊎_elim (λ x. ⊎_elim (λ y. inl (x, y)) (λ no. inr (λ p. no p.1)) b) (λ no. inr (λ p. no p.0)) a

pub either_or_not : {A B : Type 0} → OrNot A → OrNot B → OrNot (A ⊎ B)
either_or_not a b =
    ⊎_elim (λ x. inl (inl x)) (λ no. ⊎_elim (λ y. inl (inr y)) (λ none. inr (λ p. ⊎_elim no none p)) b) a

pub implies_or_not : {A B : Type 0} → OrNot A → OrNot B → OrNot (A → B)
implies_or_not a b =
    ⊎_elim (λ x. ⊎_elim (λ y. inl (λ _. y)) (λ no. inr (λ f. no (f x))) b) (λ no. inl (λ x. absurd (no x))) a

pub not_or_not : {A : Type 0} → OrNot A → OrNot (¬ A)
not_or_not a = ⊎_elim (λ x. inr (λ no. no x)) (λ no. inl no) a

pub or_not_as : {A B : Type 0} → (A → B) → (B → A) → OrNot A → OrNot B
or_not_as f g a = ⊎_elim (λ x. inl (f x)) (λ no. inr (λ y. no (g y))) a

-- ---- equality

same_code : (a b : Gv) → OrNot (a ≡ b)
same_code gnil gnil = inl refl
same_code gnil (gnum n) = inr (λ e. cc)
same_code gnil (gcons c d) = inr (λ e. cc)
same_code (gnum m) gnil = inr (λ e. cc)
same_code (gnum m) (gnum n) = ⊎_elim (λ e. inl (ap gnum e)) (λ ne. inr (λ e. ne (ap num e))) (cases_eq m n)
same_code (gnum m) (gcons c d) = inr (λ e. cc)
same_code (gcons a b) gnil = inr (λ e. cc)
same_code (gcons a b) (gnum n) = inr (λ e. cc)
same_code (gcons a b) (gcons c d) =
    or_not_as (λ (p : (a ≡ c) × (b ≡ d)). λ i. gcons (p.0 i) (p.1 i)) (same_parts a b c d) (both_or_not (same_code a c) (same_code b d))
  where
    same_parts : (a b c d : Gv) → gcons a b ≡ gcons c d → (a ≡ c) × (b ≡ d)
    same_parts a b c d e = (cc, cc)

pub same_or_not : {A : Type 0} → Coded A → (x y : A) → OrNot (x ≡ y)
same_or_not c x y = or_not_as (c.inj x y) (ap c.code) (same_code (c.code x) (c.code y))

pub true_or_not : (b : Bool) → OrNot (b ≡ true)
true_or_not true = inl refl
true_or_not false = inr (λ e. cc)

pub false_or_not : (b : Bool) → OrNot (b ≡ false)
false_or_not true = inr (λ e. cc)
false_or_not false = inl refl
