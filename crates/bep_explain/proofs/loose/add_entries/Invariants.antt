use Rattle.std.proofs.Common.{map, take}
use Rattle.bep_tables.specs.declared.table.entry.TableEntry.{TableEntry}
use Rattle.bep_tables.specs.Listed.{listed}
use Rattle.bep_audit.specs.Loose.{loose_shown, AsksEntry}
use Rattle.bep_explain.specs.inner.Rows.{row_shown}
use Rattle.bep_gather.specs.Adding.{AddsFailing, Each}
use Rattle.bep_explain.proofs.loose.add_entries.Given as goal

-- what the entries so far are asked in vain is there
abbrev pub invariant-loop-entry : goal.invariant-loop-entry
invariant-loop-entry l = AddsFailing (Each (λ (entry : TableEntry). AsksEntry (map row_shown l.rows) (listed entry)) (take l.entry-index l.entries)) (map loose_shown l.initial.found.items) (map loose_shown l.found.items)
