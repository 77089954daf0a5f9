-- The first byte that passes a test stands where the first such item of the list does.
use Rattle.std.proofs.Common.{◌≡◌, ◌<◌, ℕ, Bool, true, false, cond, List, length, get_or, Option, Some, None, refl, sym, ap, ◌∙◌, arith, true≢false}
use Rattle.std.specs.Prelude.{nat_lt}
use Rattle.std.specs.List.{position, position_or_len}
use Rattle.std.proofs.lemmas.Bool.{ltb-false}
use Rattle.std.proofs.lemmas.List.Quantifiers.{position-Some}
use Rattle.std.proofs.lemmas.List.Sums.{fails_before_first}
use Rattle.memchr.specs.Find.{IsFirstByte}

module _ (test : ℕ → Bool) (bytes : List ℕ) where
  none_passes : position test bytes ≡ None → (k : ℕ) → k < length bytes → test (get_or bytes k 0) ≡ false
  none_passes is k below = cases (nat_lt (position_or_len test bytes) (length bytes)) refl is
    where
      cases : (b : Bool) → nat_lt (position_or_len test bytes) (length bytes) ≡ b → cond b (Some (position_or_len test bytes)) None ≡ None → test (get_or bytes k 0) ≡ false
      cases true within none = absurd (cc)
      cases false beyond none = fails_before_first test bytes k 0 (let past = ltb-false (position_or_len test bytes) (length bytes) beyond in omega (arith, past, below))

  pub first_is_position : (found : Option ℕ) → IsFirstByte test bytes found → found ≡ position test bytes
  first_is_position found first = cases found first (position test bytes) refl
    where
      cases : (found : Option ℕ) → IsFirstByte test bytes found → (place : Option ℕ) → position test bytes ≡ place → found ≡ place
      cases None none None is = refl
      cases None none (Some i) is = let at = position-Some test bytes i 0 is in absurd (none i (omega arith) at.0 at.1)
      cases (Some k) some None is = absurd (true≢false (sym some.1 ∙ none_passes is k some.0.high))
      cases (Some k) some (Some i) is =
          let at = position-Some test bytes i 0 is in
          let up_to : ¬ (i < k) = λ less. some.0.before i (omega arith) less at.1 in
          let from : ¬ (k < i) = λ less. true≢false (sym some.1 ∙ at.2 k less) in
          let same : k ≡ i = omega (arith, up_to, from) in
          ap (λ (n : ℕ). Some n) same
