-- The number under which the product prints a refusal.
use Rattle.std.specs.Prelude.{ℕ, Option, Some, None}
use Rattle.bep_cut.specs.declared.error.CutError.{CutError}
use Rattle.bep_cut.specs.declared.error.CutError.TheVariants.{StoreFault, Memory}

abbrev pub number_of : CutError → Option ℕ
number_of StoreFault = Some 131
number_of Memory = None
