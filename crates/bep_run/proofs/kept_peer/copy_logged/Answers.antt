use Rattle.std.proofs.Common.{◌∙◌, ap}
use Rattle.bep_peer.specs.Member.{Member}
use Rattle.bep_run.proofs.Failing.{copies_failed, copy_failed}
use Rattle.bep_run.proofs.kept_peer.copy_logged.Goals as goal

pub returns-clause-only : goal.returns-clause-only
returns-clause-only g c =
    let is = c.failed.ensures.value ∙ ap (λ (m : Member). m.trace.failed) c.peer.ensures in
    copies_failed g.S.Store.faults c.copy-copied.new.self.now.trace.failed c.failed.result c.copy-copied.result c.copy-copied.ensures.only c.copy-copied.ensures.fault is c.failed.ensures.sure

pub returns-clause-fault : goal.returns-clause-fault
returns-clause-fault g c =
    copy_failed g.S.Store.faults c.copy-copied.new.self.now.trace.failed c.failed.result c.copy-copied.result c.copy-copied.ensures.only c.copy-copied.ensures.fault
