-- The numbers under which the product prints a refusal (this project's profile).
use Rattle.std.specs.Prelude.{ℕ, Option, Some, None}
use Rattle.bep_blocks.specs.declared.error.BlocksError.{BlocksError}
use Rattle.bep_blocks.specs.declared.error.BlocksError.TheVariants.{WorkersBad, FileTooLarge, Memory}

abbrev pub number_of : BlocksError → Option ℕ
number_of WorkersBad = Some 111
number_of FileTooLarge = Some 112
number_of Memory = None
