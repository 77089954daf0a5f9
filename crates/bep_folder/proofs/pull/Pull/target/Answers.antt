use Rattle.std.proofs.Common.{subst}
use Rattle.bep_folder.specs.Pull.{IsPull}
use Rattle.bep_folder.proofs.KeptFacts.{kept_is_pull}
use Rattle.bep_folder.proofs.pull.Pull.target.Goals as goal

pub returns-clause-a_pull : goal.returns-clause-a_pull
returns-clause-a_pull c =
    subst IsPull c.self.view_is (kept_is_pull c.self.inside.target c.self.inside.node c.self.inside.arrived.items c.self.invariant)
