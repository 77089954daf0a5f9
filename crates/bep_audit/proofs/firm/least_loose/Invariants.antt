use Rattle.std.proofs.Common.{option_map, take}
use Rattle.bep_audit.specs.Loose.{loose_cmp, loose_shown}
use Rattle.bep_audit.specs.inner.Search.{FindsFirst}
use Rattle.bep_audit.proofs.LooseFacts.{AsksLent}
use Rattle.bep_audit.proofs.firm.least_loose.Given as goal

-- the least so far is that of the entries that are past
abbrev pub invariant-loop-entry : goal.invariant-loop-entry
invariant-loop-entry l = FindsFirst loose_cmp (AsksLent l.rows (take l.entry-index l.table)) (option_map loose_shown l.least)
