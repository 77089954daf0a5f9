-- Stores that never fail (this project's profile).
use Rattle.std.specs.Prelude.{◌≡◌, ℕ}

-- no store of the kind has ever failed
abbrev pub NeverFails : {S : Type 0} → (S → ℕ) → Type 0
NeverFails {S} faults = (store : S) → faults store ≡ 0
