use Rattle.bep_tables.proofs.Known.{names_are_known}
use Rattle.bep_tables.proofs.Finite.{cut_is_finite}
use Rattle.bep_tables.proofs.laws.names_are_known.Goals as goal

pub returns-clause-known : goal.returns-clause-known
returns-clause-known c = names_are_known

pub returns-clause-finite : goal.returns-clause-finite
returns-clause-finite c = cut_is_finite
