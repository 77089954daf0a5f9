-- Why words aren't followed, by clap's error.
use Rattle.std.specs.Prelude.{Result, Ok, Err}
use Rattle.clap.specs.Words.{kind_of}
use Rattle.clap.specs.declared.error.Error.{Error}
use Rattle.clap.specs.declared.error.kind.ErrorKind.{ErrorKind}
use Rattle.clap.specs.declared.error.kind.ErrorKind.TheVariants.{OutOfMemory}
use Rattle.bep_words.specs.declared.mode.Mode.{Mode}
use Rattle.bep_words.specs.declared.told.Unfollowed.{Unfollowed}
use Rattle.bep_words.specs.declared.told.Unfollowed.TheVariants.{Usage, Memory}

-- memory only where the error is want of it
abbrev pub why_of_kind : ErrorKind → Unfollowed
why_of_kind OutOfMemory = Memory
why_of_kind _ = Usage

abbrev pub why_of : Error → Unfollowed
why_of error = why_of_kind (kind_of error)

-- what is made of clap's answer
abbrev pub told_of : Result Mode Error → Result Mode Unfollowed
told_of (Ok mode) = Ok mode
told_of (Err error) = Err (why_of error)
