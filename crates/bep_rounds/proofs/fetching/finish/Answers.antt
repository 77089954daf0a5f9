use Rattle.std.proofs.Common.{◌∷◌, sym, subst₂}
use Rattle.bep_model.specs.Tables.{Folder, FileName}
use Rattle.bep_machine.specs.declared.step.Step.TheVariants.{Finish}
use Rattle.bep_machine.specs.Steps.{IsRun}
use Rattle.bep_peer.specs.network.Network.{cluster_of}
use Rattle.bep_converge.specs.Bring.{done}
use Rattle.bep_rounds.proofs.fetching.finish.Goals as goal

pub returns-clause-made : goal.returns-clause-made
returns-clause-made g c = λ more later run.
    c.make.ensures.made more later
    (subst₂ (λ (folder : Folder) (name : FileName). IsRun (cluster_of c.args.cluster.now) (done (Finish c.args.wanted.now.device folder name) ∷ more) later) (sym c.in_ok-folder.ensures) (sym c.in_ok-copy.ensures) run)
