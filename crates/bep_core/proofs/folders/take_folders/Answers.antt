use Rattle.std.proofs.Common.{ap, ◌∙◌}
use Rattle.bep_core.specs.Begin.{folders_at}
use Rattle.bep_core.proofs.FoldersAt.{at_removed}
use Rattle.bep_core.proofs.folders.take_folders.Goals as goal

pub returns-in-Some-clause-others : goal.returns-in-Some-clause-others
returns-in-Some-clause-others g c = λ other apart.
    ap (λ m. folders_at m other) c.in-Some.ensures.removed ∙ at_removed c.args.folders.now c.args.device other apart

pub returns-in-None-clause-others : goal.returns-in-None-clause-others
returns-in-None-clause-others g c = λ other apart.
    ap (λ m. folders_at m other) c.in-None.ensures.removed ∙ at_removed c.args.folders.now c.args.device other apart
