-- The first place at which something is at fault, front to back (this project's profile).
use Rattle.std.specs.Prelude.{Bool, List, [], ◌∷◌, ◌++◌, Option, Some, None}
use Rattle.std.specs.List.{list_any}
use Rattle.bep_document.specs.declared.fault.DocFault.{DocFault}

-- this fault, or else that one
infixr 10 ◌else_at◌
abbrev pub ◌else_at◌ : Option DocFault → Option DocFault → Option DocFault
None else_at later = later
(Some fault) else_at later = Some fault

-- the first fault among the items, each looked at with those before it
abbrev pub first_in : {A : Type 0} → (List A → A → Option DocFault) → List A → List A → Option DocFault
first_in fault_of earlier [] = None
first_in fault_of earlier (item ∷ more) = fault_of earlier item else_at first_in fault_of (earlier ++ item ∷ []) more

-- what is at fault at an item, by whether an earlier one has its key
abbrev pub by_key : {A K : Type 0} → (K → K → Bool) → (A → K) → (Bool → A → Option DocFault) → List A → A → Option DocFault
by_key same key fault_of earlier item = fault_of (list_any (λ known. same (key known) (key item)) earlier) item
