-- What is said by a member that may be left out is what is read of it.
use Rattle.std.specs.Prelude.{Bool, true, false, Option, None, Some, Err, List, ℕ, if◌then◌else◌, is_some, option_map, option_and_then, unwrap_or}
use Rattle.std.proofs.Common.{◌≡◌, ◌&&◌, refl}
use Rattle.serde_json.specs.Data.{Data, Num, unsigned, negative, float}
use Rattle.serde_json.specs.Find.{get, as_number, as_integer, as_u64, as_bool}
use Rattle.bep_record.specs.declared.kind.Kind.{Kind}
use Rattle.bep_json.specs.declared.told.Misread.TheVariants.{Shape}
use Rattle.bep_json.specs.Reading.{◌>>=◌, read_or}
use Rattle.bep_json.specs.Numbers.{is_whole, is_flag, kind_of, read_kind, read_flag}
use Rattle.bep_json.specs.Tree.{may_have_member}
use Rattle.bep_json.specs.Taking.{judged, slot}
use Rattle.bep_json.specs.inner.Said.{thing_of, said, said_or, optional, read_optional}

-- what says a thing has the thing's shape
abbrev pub Shaped : {T : Type 0} → (Data → Bool) → (Data → Option T) → Type 0
Shaped {T} shape reads = (d : Data) (thing : T) → reads d ≡ Some thing → shape d ≡ true

thing_of_judged : {T : Type 0} (shape : Bool) (read : Option T) → ((thing : T) → read ≡ Some thing → shape ≡ true) → thing_of (judged shape read) ≡ read
thing_of_judged true None shaped = refl
thing_of_judged true (Some thing) shaped = refl
thing_of_judged false None shaped = refl
thing_of_judged false (Some thing) shaped = let other = shaped thing refl in cc

pub said_is : {T : Type 0} (shape : Data → Bool) (reads : Data → Option T) (found : Option Data) → Shaped shape reads → said (slot shape reads found) ≡ (found >>= reads)
said_is shape reads None shaped = refl
said_is shape reads (Some d) shaped = thing_of_judged (shape d) (reads d) (shaped d)

pub said_or_is : {T : Type 0} (default : T) (shape : Data → Bool) (reads : Data → Option T) (found : Option Data) → Shaped shape reads
    → said_or default (slot shape reads found) ≡ read_or reads default found
said_or_is default shape reads None shaped = refl
said_or_is default shape reads (Some d) shaped = thing_of_judged (shape d) (reads d) (shaped d)

pub is_there : {T : Type 0} (shape : Data → Bool) (reads : Data → Option T) (found : Option Data) → is_some (slot shape reads found) ≡ is_some found
is_there shape reads None = refl
is_there shape reads (Some d) = refl

optional_of_judged : {T : Type 0} (shape : Bool) (read : Option T) → optional (Some (judged shape read)) ≡ judged shape (option_map Some read)
optional_of_judged true None = refl
optional_of_judged true (Some thing) = refl
optional_of_judged false read = refl

optional_of_found : {T : Type 0} (shape : Data → Bool) (reads : Data → Option T) (found : Option Data) → optional (slot shape reads found) ≡ judged (unwrap_or (option_map shape found) true) (read_optional reads found)
optional_of_found shape reads None = refl
optional_of_found shape reads (Some d) = optional_of_judged (shape d) (reads d)

-- a member that may be left out
pub optional_is : {T : Type 0} (name : List ℕ) (shape : Data → Bool) (reads : Data → Option T) (d : Data)
    → optional (slot shape reads (get name d)) ≡ judged (may_have_member name shape d) (read_optional reads (get name d))
optional_is name shape reads d = optional_of_found shape reads (get name d)

-- what is told where something else is asked for, too
pub if_also : {T : Type 0} (also shape : Bool) (read : Option T) → (if also then judged shape read else Err Shape) ≡ judged (also && shape) read
if_also true shape read = refl
if_also false shape read = refl

-- ---- kinds and flags

kind_is_whole : (n : Option Num) (kind : Kind) → (option_and_then as_u64 n >>= kind_of) ≡ Some kind → is_some (option_and_then as_integer n) ≡ true
kind_is_whole None kind is = cc
kind_is_whole (Some (unsigned n)) kind is = refl
kind_is_whole (Some (negative z)) kind is = refl
kind_is_whole (Some (float x)) kind is = cc

pub kinds_are_whole : Shaped is_whole read_kind
kinds_are_whole d kind is = kind_is_whole (as_number d) kind is

flag_is_flag : (read : Option Bool) (flag : Bool) → read ≡ Some flag → is_some read ≡ true
flag_is_flag None flag is = cc
flag_is_flag (Some read) flag is = refl

pub flags_are_flags : Shaped is_flag read_flag
flags_are_flags d flag is = flag_is_flag (as_bool d) flag is
