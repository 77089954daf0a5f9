-- When a test of two numbers says that they are the same.
use Rattle.std.proofs.Common.{◌≡◌, ◌≢◌, ◌==◌, ℕ, true, false, sym, ap, ◌∙◌, arith}
use Rattle.std.proofs.lemmas.Bool.Decides.{nat_tests}

pub itself : (n : ℕ) → (n == n) ≡ true
itself n = grind (arith, nat_tests)

pub same_number : (m n : ℕ) → (m == n) ≡ true → m ≡ n
same_number m n e = grind (arith, nat_tests, e)

pub another_number : (m n : ℕ) → (m == n) ≡ false → m ≢ n
another_number m n e same = let both : true ≡ false = sym (itself m) ∙ ap (λ k. m == k) same ∙ e in absurd (cc)
