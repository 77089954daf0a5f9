-- What a reader answers, against the thing that a tree stands for.
use Rattle.std.specs.Prelude.{◌≡◌, ℕ, List, Option, Some, None, Result, Ok, Err}
use Rattle.serde_json.specs.Data.{Data}
use Rattle.serde_json.specs.Find.{get}
use Rattle.bep_json.specs.declared.error.ReadError.{ReadError}
use Rattle.bep_json.specs.declared.error.ReadError.TheVariants.{Range, Memory}

-- the second step, if the first gave a thing
infixl 10 ◌>>=◌
abbrev pub ◌>>=◌ : {A B : Type 0} → Option A → (A → Option B) → Option B
None >>= f = None
(Some x) >>= f = f x

-- there is no thing, unless memory ran out
abbrev pub Fails : {T : Type 0} → ReadError → Option T → Type 0
Fails Range read = read ≡ None
Fails Memory read = Unit {0}

-- the answer is the thing, or Range where there is none; or memory ran out
abbrev pub Gives : {T : Type 0} → Result T ReadError → Option T → Type 0
Gives (Ok x) read = read ≡ Some x
Gives (Err e) read = Fails e read

-- the thing at a member
abbrev pub read_member : {T : Type 0} → List ℕ → (Data → Option T) → Data → Option T
read_member name reads d = get name d >>= reads

-- the thing at a member, or this one where there is no such member
abbrev pub read_or : {T : Type 0} → (Data → Option T) → T → Option Data → Option T
read_or reads default None = Some default
read_or reads default (Some d) = reads d

-- the same, by the name of the member
abbrev pub read_member_or : {T : Type 0} → List ℕ → (Data → Option T) → T → Data → Option T
read_member_or name reads default d = read_or reads default (get name d)
