use Rattle.bep_converge_check.proofs.KnownFacts.{AreValid}
use Rattle.bep_converge_check.proofs.known.gathered.Given as goal

-- the valid records of the entries so far
abbrev pub invariant-loop-entry : goal.invariant-loop-entry
invariant-loop-entry l = AreValid l.group l.entry-index l.records.items
