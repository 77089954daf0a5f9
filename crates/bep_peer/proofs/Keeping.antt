-- What holds of all that a row makes.
use Rattle.std.proofs.Common.{sym, subst, ⊎_elim}
use Rattle.bep_machine.specs.Answer.{Answer, Row, becomes, when◌then◌else◌, ◌answers◌when◌else◌}

abbrev pub Keeping : {S : Type 0} → (S → Type 0) → Row S → Type 0
Keeping {S} P row = (new : S) (answer : Answer) → row new answer → P new

module _ {S : Type 0} (P : S → Type 0) where
  pub becoming : (made : S) (given : Answer) → P made → Keeping P (becomes made given)
  becoming made given holds new answer is = subst P (sym is.0) holds

  -- a row that refuses first, of any state of which it holds
  pub refusing : (start : S) (given : Answer) (condition : Type 0) (rest : Row S) → P start → Keeping P rest → Keeping P (start answers given when condition else rest)
  refusing start given condition rest holds keeps new answer is =
      ⊎_elim (λ refused. subst P (sym refused.1.0) holds) (λ made. keeps new answer made.1) is

  pub either : (condition : Type 0) (one other : Row S) → Keeping P one → Keeping P other → Keeping P (when condition then one else other)
  either condition one other keeps keeps_too new answer is = ⊎_elim (λ made. keeps new answer made.1) (λ made. keeps_too new answer made.1) is
