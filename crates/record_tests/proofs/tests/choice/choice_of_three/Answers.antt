use Rattle.std.proofs.Common.{◌≡◌, ℕ, zero, suc, ◌+◌, ◌<◌, [], ◌∷◌, arith}
use Rattle.std.specs.List.{slice_index}
use Rattle.record_tests.proofs.tests.choice.choice_of_three.Goals as goal

-- devices 2, 3 and 4 rise
rise : (a b d : ℕ) → a ≡ 2 → b ≡ 3 → d ≡ 4 → (k : ℕ) → k + 1 < 3 → slice_index (a ∷ b ∷ d ∷ []) k < slice_index (a ∷ b ∷ d ∷ []) (k + 1)
rise a b d first second third zero within = omega arith
rise a b d first second third (suc zero) within = omega arith
rise a b d first second third (suc (suc k)) within = absurd (omega arith)

pub choose-requires : goal.choose-requires
choose-requires c = rise _ _ _ c.in_ok-read.ensures.1 c.in_ok-read-2.ensures.1 c.in_ok-read-3.ensures.1
