use Rattle.std.proofs.Common.{map, take}
use Rattle.std.specs.Option.{option_copied}
use Rattle.bep_tables.specs.Cut.{tables_of}
use Rattle.bep_audit.specs.Walk.{failure_shown}
use Rattle.bep_gather.specs.Adding.{AddsFailing, Each}
use Rattle.bep_audit.specs.declared.checkers.TheConstants.{REASONS}
use Rattle.bep_explain.specs.inner.Says.{SaysReasonBoth}
use Rattle.bep_explain.proofs.collect.add_reasons.Given as goal

-- which of the reasons so far fail is there
abbrev pub invariant-loop-reason : goal.invariant-loop-reason
invariant-loop-reason l = AddsFailing (Each (SaysReasonBoth (tables_of l.cut) l.row (option_copied l.other) l.share) (take l.reason-index REASONS)) (map failure_shown l.initial.found.items) (map failure_shown l.found.items)
