-- The number of this crate's refusal, as the product prints it.
use Rattle.std.specs.Prelude.{ℕ, Option, Some, None}
use Rattle.bep_config.specs.declared.error.ConfigError.{ConfigError}
use Rattle.bep_config.specs.declared.error.ConfigError.TheVariants.{ConfigBad, Memory}

abbrev pub number_of : ConfigError → Option ℕ
number_of ConfigBad = Some 164
number_of Memory = None
