-- Answers that are a value or an error.
use Rattle.std.proofs.Common.{◌↔◌, Ok, IsErrOf}

-- a value is no refusal
pub not_refused : {T E P : Type 0} {x : T} {e : E} → (IsErrOf (Ok x) e ↔ P) → P → ⊥
not_refused refused p = let never = refused.1 p in cc
