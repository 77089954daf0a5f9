-- What is asked of some records of a name: that their versions are in line, and that equal ones have equal contents (this
-- project's profile).
use Rattle.std.specs.Prelude.{◌≡◌, ◌⊎◌}
use Rattle.bep_record.specs.declared.entry.Entry.{Entry}
use Rattle.bep_record.specs.Content.{content_of}
use Rattle.bep_record.specs.Vector.{IsAtMost}
use Rattle.bep_model.specs.Firm.{AreEqual}

-- of each two of them one version is at most the other
abbrev pub AreInLine : (Entry → Type 0) → Type 0
AreInLine Known = (one other : Entry) → Known one → Known other → IsAtMost one.version other.version ⊎ IsAtMost other.version one.version

-- where their versions are equal, so are their contents
abbrev pub Agree : (Entry → Type 0) → Type 0
Agree Known = (one other : Entry) → Known one → Known other → AreEqual one.version other.version → content_of one ≡ content_of other
