-- The order of a table's entries: by folder, then by name, each by its bytes; and the same order from its end.
use Rattle.std.specs.declared.cmp.Ordering.{Ordering}
use Rattle.std.specs.Cmp.{IsTotalOrder, on_total}
use Rattle.std.proofs.lemmas.Cmp.{back_total}
use Rattle.bep_facts.specs.Orders.{texts_total}
use Rattle.bep_model.specs.Settled.{key_cmp}
use Rattle.bep_tables.specs.declared.table.falling.Falling.{Falling}
use Rattle.bep_tables.specs.declared.table.entry.TableEntry.{TableEntry}
use Rattle.bep_tables.specs.Listed.{key_at, listed}

abbrev pub entry_cmp : TableEntry → TableEntry → Ordering
entry_cmp one other = key_cmp (key_at (listed one)) (key_at (listed other))

pub entry_total : IsTotalOrder entry_cmp
entry_total = on_total (λ (one : TableEntry). key_at (listed one)) texts_total

abbrev pub falling_cmp : Falling → Falling → Ordering
falling_cmp one other = entry_cmp other.entry one.entry

pub falling_total : IsTotalOrder falling_cmp
falling_total = on_total (λ (one : Falling). one.entry) (back_total entry_total)
