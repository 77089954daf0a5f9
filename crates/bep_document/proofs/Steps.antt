-- What each step of a reading gave, where the whole gave a thing.
use Rattle.std.proofs.Common.{◌≡◌, ℕ, List, Option, Some, None, Bool, true, false, if◌then◌else◌, refl, subst, ap, ◌∙◌}
use Rattle.serde_json.specs.Data.{Data}
use Rattle.bep_json.specs.Reading as json
use Rattle.bep_document.specs.declared.fault.DocFault.{DocFault}
use Rattle.bep_document.specs.declared.fault.Fault.{Fault}
use Rattle.bep_document.specs.declared.fault.Fault.TheVariants.{Shape, Range}
use Rattle.bep_document.specs.Fault.{nowhere}
use Rattle.bep_document.specs.Reading.{Reading, Read, Refused, ◌>>=◌, given, passed, unless, document_tree, of_bytes, of_shape}

-- the thing is such, if there is one
abbrev pub Gives : {T : Type 0} → (T → Type 0) → Option T → Type 0
Gives {T} P o = (x : T) → o ≡ Some x → P x

gives_none : {T : Type 0} (P : T → Type 0) → Gives P None
gives_none P x e = absurd (different e) where
  different : None ≡ Some x → ⊥
  different d = cc

-- the thing that the last step makes
pub made : {T : Type 0} (P : T → Type 0) (x : T) → P x → Gives P (Some x)
made P x holds y e = let same : x ≡ y = cc in subst P same holds

-- a step whose thing is of use for the whole
pub keep : {A B : Type 0} {Q : A → Type 0} {P : B → Type 0} {o : Option A} {next : A → Option B} → Gives Q o → ((x : A) → Q x → Gives P (next x)) → Gives P (json.◌>>=◌ o next)
keep {A} {B} {Q} {P} {o} {next} first each = cases o first where
  cases : (o : Option A) → Gives Q o → Gives P (json.◌>>=◌ o next)
  cases None none = gives_none P
  cases (Some x) some = each x (some x refl)

-- a step whose thing is of none
pub skip : {A B : Type 0} {P : B → Type 0} (o : Option A) {next : A → Option B} → ((x : A) → Gives P (next x)) → Gives P (json.◌>>=◌ o next)
skip {P = P} None each = gives_none P
skip (Some x) each = each x

-- a thing that passes a test
pub tested : {T : Type 0} (P : T → Type 0) (b : Bool) (x : T) → (b ≡ true → P x) → Gives P (if b then Some x else None)
tested P true x holds = made P x (holds refl)
tested P false x holds = gives_none P

-- of a step that may be refused
pub passed_and : {A B : Type 0} (fault : Fault) (test : A → Bool) (x : A) (next : A → Reading B) {y : B} → (passed fault test x >>= next) ≡ Read y → next x ≡ Read y
passed_and {A} {B} fault test x next {y} e = cases (test x) e where
  cases : (b : Bool) → ((if b then Read x else Refused (nowhere fault)) >>= next) ≡ Read y → next x ≡ Read y
  cases true read = read
  cases false read = absurd (different read) where
    different : Refused (nowhere fault) ≡ Read y → ⊥
    different d = cc

pub given_and : {A B : Type 0} (fault : Fault) (o : Option A) (next : A → Reading B) {y : B} → (given fault o >>= next) ≡ Read y → (x : A) × (o ≡ Some x) × (next x ≡ Read y)
given_and fault None next {y = y} e = absurd (different e) where
  different : Refused (nowhere fault) ≡ Read y → ⊥
  different d = cc
given_and fault (Some x) next e = (x, refl, e)

read_and : {A B : Type 0} (reading : Reading A) (next : A → Reading B) {y : B} → (reading >>= next) ≡ Read y → (x : A) × (next x ≡ Read y)
read_and (Read x) next e = (x, e)
read_and (Refused fault) next {y = y} e = absurd (different e) where
  different : Refused fault ≡ Read y → ⊥
  different d = cc

pub no_fault_and : {A : Type 0} (o : Option DocFault) {x y : A} → unless o x ≡ Read y → (o ≡ None) × (x ≡ y)
no_fault_and None e = (refl, cc)
no_fault_and (Some fault) {y = y} e = absurd (different e) where
  different : Refused fault ≡ Read y → ⊥
  different d = cc

-- of bytes, that their tree says the same
pub of_bytes_and : {T : Type 0} (of_tree : Data → Reading T) (bytes : List ℕ) {y : T} → of_bytes of_tree bytes ≡ Read y → (tree : Data) × (of_tree tree ≡ Read y)
of_bytes_and of_tree bytes e = read_and (document_tree bytes) of_tree e

-- of a tree that has a shape, that the thing stands there, and has no fault
pub of_shape_and : {T : Type 0} (has_shape : Data → Bool) (reads : Data → Option T) (fault_of : T → Option DocFault) (tree : Data) {y : T} → of_shape has_shape reads fault_of tree ≡ Read y → (reads tree ≡ Some y) × (fault_of y ≡ None)
of_shape_and has_shape reads fault_of tree {y} e =
    let shaped = passed_and Shape has_shape tree _ e in
    let found = given_and Range (reads tree) _ shaped in
    let clean = no_fault_and (fault_of found.0) found.2 in
    (found.1 ∙ ap Some clean.1, subst (λ x. fault_of x ≡ None) clean.1 clean.0)
