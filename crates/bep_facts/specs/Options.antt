-- Where there is no value.
use Rattle.std.proofs.Common.{◌≡◌, ◌≢◌, Option, Some, None, IsSome, is_some, refl, ap}

pub none_from_no_value : {X : Type 0} (o : Option X) → ((x : X) → o ≢ Some x) → o ≡ None
none_from_no_value None no_value = refl
none_from_no_value (Some x) no_value = absurd (no_value x refl)

-- what is not Some is None
pub none_from_not_some : {X : Type 0} (o : Option X) → ¬ IsSome o → o ≡ None
none_from_not_some o not_some = none_from_no_value o (λ x is. not_some (ap is_some is))
