-- A store that fails one of its calls (this project's profile).
use Rattle.std.specs.Prelude.{◌≡◌, ℕ, ◌+◌, ◌-◌, Bool, ◌||◌, IsTrue, nat_eq, if◌then◌else◌, refl}
use Rattle.std.specs.Coded.{Coded, code_by, coded×, coded_ℕ, coded_bool}

-- the store inside, how many calls are left up to the one that fails (0 where none is to fail), and whether it failed
pub record Failing (S : Type 0) : Type 0 where
  pub inner : S
  pub left : ℕ
  pub failed : Bool

-- it is stored as its parts, by the code of the store inside
abbrev pub failing_code : {S : Type 0} → Coded S → Coded (Failing S)
failing_code {S} inner =
    code_by (S × (ℕ × Bool)) (coded× inner (coded× coded_ℕ coded_bool)) (λ f. (f.inner, (f.left, f.failed))) (λ p. record { inner = p.0; left = p.1.0; failed = p.1.1 }) (λ _. refl)

-- the next call is the one that fails
abbrev pub is_due : {S : Type 0} → Failing S → Bool
is_due store = nat_eq store.left 1

-- one call later, with this store inside
abbrev pub after_call : {S : Type 0} → Failing S → S → Failing S
after_call store inner = record { inner = inner; left = store.left - 1; failed = is_due store || store.failed }

-- a call was counted, and did not reach the store inside where it is the one that fails
pub record CountsCall {S : Type 0} (old new : Failing S) : Type 0 where
  pub counted : new ≡ after_call old new.inner
  pub unreached : IsTrue (is_due old) → new.inner ≡ old.inner

-- how often the store failed: as often as the store inside, and once by itself where it did
abbrev pub all_faults : {S : Type 0} → (S → ℕ) → Failing S → ℕ
all_faults inner_faults store = inner_faults store.inner + (if store.failed then 1 else 0)
