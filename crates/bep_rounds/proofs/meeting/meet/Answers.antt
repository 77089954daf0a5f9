use Rattle.std.proofs.Common.{◌≡◌, ◌∷◌, Err, rules}
use Rattle.bep_machine.specs.declared.step.Step.TheVariants.{Begin, Deliver}
use Rattle.bep_machine.specs.Steps.{IsRun}
use Rattle.bep_peer.specs.network.Network.{cluster_of}
use Rattle.bep_converge.specs.Bring.{done}
use Rattle.bep_rounds.proofs.Made.{at_err}
use Rattle.bep_rounds.proofs.QuietRuns.{both_runs}
use Rattle.bep_rounds.proofs.meeting.meet.Goals as goal

pub returns-clause-quiet : goal.returns-clause-quiet
returns-clause-quiet g c = both_runs _ _ _ c.restart.ensures.quiet c.exchange.ensures.quiet

pub returns-clause-made : goal.returns-clause-made
returns-clause-made g c = λ more later run.
    let device = c.args.wanted.now.device in
    let owner = c.args.wanted.now.owner in
    c.exchange.ensures.made more later
    (c.in_ok-restart.ensures.made (done (Begin device owner) ∷ done (Begin owner device) ∷ done (Deliver device owner) ∷ done (Deliver owner device) ∷ more) later run)

pub returns-in_err-restart-clause-made : goal.returns-in_err-restart-clause-made
returns-in_err-restart-clause-made g c =
    let is : c.from_residual.result ≡ Err c.in_err-restart.field-0.0 = search rules in
    let device = c.args.wanted.now.device in
    let owner = c.args.wanted.now.owner in
    λ more later run. at_err (IsRun (cluster_of c.restart.new.cluster) more later) c.restart.new.cluster.members c.from_residual.result c.in_err-restart.field-0.0 is
    (c.in_err-restart.ensures.made (done (Begin device owner) ∷ done (Begin owner device) ∷ done (Deliver device owner) ∷ done (Deliver owner device) ∷ more) later run)
