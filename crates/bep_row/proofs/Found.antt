-- What a test of a record tells where the record may be missing.
use Rattle.std.proofs.Common.{◌≡◌, ◌↔◌, ◌∙◌, Bool, IsTrue, Option, Some, sym, subst}

-- a test of what is there is one of all that may be there
pub for_one : {X : Type 0} (P : X → Type 0) (r : Bool) (found : Option X) (x : X) → found ≡ Some x → IsTrue r ↔ P x → IsTrue r ↔ ((y : X) → found ≡ Some y → P y)
for_one {X = X} P r found x is one = (λ yes y also. subst P (same y (sym is ∙ also)) (one.0 yes), λ all. one.1 (all x is))
  where
    same : (y : X) → Some x ≡ Some y → x ≡ y
    same y e = cc
