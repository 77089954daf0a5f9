use Rattle.std.proofs.Common.{map}
use Rattle.std.specs.Option.{option_copied}
use Rattle.bep_tables.specs.Listed.{listed}
use Rattle.bep_converge_check.specs.inner.Known.{IsHighestOwn}
use Rattle.bep_converge_check.proofs.KnownFacts.{Done}
use Rattle.bep_converge_check.proofs.known.highest_own.Given as goal

-- the highest of the entries so far
abbrev pub invariant-loop-entry : goal.invariant-loop-entry
invariant-loop-entry l = IsHighestOwn (map listed l.group) (Done l.group l.entry-index) (option_copied l.highest)
