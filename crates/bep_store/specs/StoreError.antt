-- The number of this crate's refusal, as the product prints it.
use Rattle.std.specs.Prelude.{ℕ, Option, Some, None}
use Rattle.bep_store.specs.declared.error.StoreError.{StoreError}
use Rattle.bep_store.specs.declared.error.StoreError.TheVariants.{Fault, Memory}

abbrev pub number_of : StoreError → Option ℕ
number_of Fault = Some 131
number_of Memory = None
