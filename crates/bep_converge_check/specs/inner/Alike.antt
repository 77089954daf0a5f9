-- Records that repeat the top of a name (this project's profile).
use Rattle.std.specs.Prelude.{◌≡◌, Some}
use Rattle.bep_record.specs.declared.entry.Entry.{Entry}
use Rattle.bep_record.specs.Content.{content_of}
use Rattle.bep_record.specs.Vector.{IsAtMost}
use Rattle.bep_tables.specs.Listed.{Listed}
use Rattle.bep_converge_check.specs.inner.Records.{valid_held}

-- a valid record of the entry has a version that is no lower than the top's, and the top's content
unfoldable pub RepeatsIfValid : Entry → Listed → Type 0
RepeatsIfValid top one = (entry : Entry) → valid_held one.holding ≡ Some entry → IsAtMost top.version entry.version × (content_of entry ≡ content_of top)
