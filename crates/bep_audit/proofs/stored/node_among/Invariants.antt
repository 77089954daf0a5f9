use Rattle.std.proofs.Common.{◌≡◌, drop, map}
use Rattle.bep_tables.specs.Listed.{listed}
use Rattle.bep_audit.specs.inner.Faultless.{node_among}
use Rattle.bep_audit.proofs.stored.node_among.Given as goal

-- none so far is the device's
abbrev pub invariant-loop-entry : goal.invariant-loop-entry
invariant-loop-entry l = node_among l.device (map listed (drop l.entry-index l.group)) ≡ node_among l.device (map listed l.group)
