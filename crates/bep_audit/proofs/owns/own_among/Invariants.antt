use Rattle.std.proofs.Common.{◌≡◌, drop, map}
use Rattle.bep_tables.specs.Listed.{listed}
use Rattle.bep_audit.specs.Candidates.{own_among}
use Rattle.bep_audit.proofs.owns.own_among.Given as goal

-- none so far is the device's own
abbrev pub invariant-loop-entry : goal.invariant-loop-entry
invariant-loop-entry l = own_among l.device (map listed (drop l.entry-index l.group)) ≡ own_among l.device (map listed l.group)
