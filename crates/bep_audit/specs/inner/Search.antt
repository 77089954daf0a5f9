-- What a search for the first place at which a reason fails finds (this project's profile).
use Rattle.std.specs.Prelude.{◌≡◌, List, Option, Some, None, if◌then◌else◌}
use Rattle.std.specs.Ordering.{is_lt}
use Rattle.std.specs.declared.cmp.Ordering.{Ordering}
use Rattle.std.specs.declared.cmp.Ordering.TheVariants.{Less}
use Rattle.bep_model.specs.declared.row.Row.{Row}
use Rattle.bep_model.specs.declared.reason.Reason.{Reason}
use Rattle.bep_model.specs.Tables.{Tables}
use Rattle.bep_model.specs.Reasons.{Place, place_cmp, Asks}

-- it doesn't hold here, and it holds of all that comes before in the order
pub record FailsFirst {X : Type 0} (cmp : X → X → Ordering) (Holds : X → Type 0) (here : X) : Type 0 where
  pub fails : ¬ Holds here
  pub before : (earlier : X) → cmp earlier here ≡ Less → Holds earlier

-- what is found of all that it doesn't hold of: nothing where it holds of all, or else the first
abbrev pub FindsFirst : {X : Type 0} → (X → X → Ordering) → (X → Type 0) → Option X → Type 0
FindsFirst {X} cmp Holds None = (x : X) → Holds x
FindsFirst {X} cmp Holds (Some here) = FailsFirst cmp Holds here

-- what is found of the places at which a reason fails
abbrev pub FindsFailing : Tables → List Row → Reason → Option Place → Type 0
FindsFailing t rows reason = FindsFirst place_cmp (Asks t rows reason)

-- the lesser of two, where each may be missing; the first of two that tie
abbrev pub lesser : {X : Type 0} → (X → X → Ordering) → Option X → Option X → Option X
lesser cmp None other = other
lesser cmp (Some one) None = Some one
lesser cmp (Some one) (Some other) = if is_lt (cmp other one) then Some other else Some one
