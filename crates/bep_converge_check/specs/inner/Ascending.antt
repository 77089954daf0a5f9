-- Records each of which has a version at most those behind it (this project's profile).
use Rattle.std.specs.Prelude.{ℕ, ◌<◌, List, get_or}
use Rattle.bep_record.specs.Vector.{IsAtMost}
use Rattle.bep_converge_check.specs.declared.weight.Weighed.{Weighed}

-- those before a place
abbrev pub AscendUpTo : ℕ → List Weighed → Type 0
AscendUpTo end ones = (d : Weighed) (i j : ℕ) → i < j → j < end → IsAtMost (get_or ones i d).found.now.version (get_or ones j d).found.now.version
