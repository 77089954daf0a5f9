use Rattle.bep_converge_check.proofs.DeviceReasons.{AreMetBefore}
use Rattle.bep_converge_check.proofs.unmet.first_unmet.Given as goal

abbrev pub invariant-loop-reason : goal.invariant-loop-reason
invariant-loop-reason l = AreMetBefore l.top l.name l.shares l.reason-index
