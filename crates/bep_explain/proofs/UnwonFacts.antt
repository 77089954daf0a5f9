-- What is told of failures under the winners is nothing exactly where nothing fails.
use Rattle.std.proofs.Common.{◌≡◌, ◌↔◌, List, [], ◌∷◌, map, refl}

pub both_none : {A B C D : Type 0} (f : A → C) (g : B → C) (h : D → B) (xs : List A) (ys : List D) → map f xs ≡ map g (map h ys) → (xs ≡ []) ↔ (ys ≡ [])
both_none f g h [] [] same = (λ _. refl, λ _. refl)
both_none f g h [] (y ∷ ys) same = absurd (cc)
both_none f g h (x ∷ xs) [] same = absurd (cc)
both_none f g h (x ∷ xs) (y ∷ ys) same = (λ none. absurd (cc), λ none. absurd (cc))

pub instead : {A B P : Type 0} (xs : List A) (ys : List B) → (xs ≡ []) ↔ (ys ≡ []) → (ys ≡ []) ↔ P → (xs ≡ []) ↔ P
instead xs ys one other = (λ none. other.0 (one.0 none), λ p. one.1 (other.1 p))
