use Rattle.std.proofs.Common.{◌≡◌, ◌∷◌, nat_lt, true, false, rules, subst}
use Rattle.bep_machine.specs.declared.step.Step.{Step}
use Rattle.bep_machine.specs.Steps.{IsRun}
use Rattle.bep_peer.specs.network.Network.{cluster_of}
use Rattle.bep_converge.specs.Bring.{done}
use Rattle.bep_rounds.proofs.Made.{connect_below, connect_above}
use Rattle.bep_rounds.proofs.meeting.connect.Goals as goal

pub returns-then-lt-clause-made : goal.returns-then-lt-clause-made
returns-then-lt-clause-made g c = λ more later run.
    let below : nat_lt c.args.device c.args.other ≡ true = search rules in
    c.make.ensures.made more later (subst (λ (step : Step). IsRun (cluster_of c.args.cluster.now) (done step ∷ more) later) (connect_below c.args.device c.args.other below) run)

pub returns-else-lt-clause-made : goal.returns-else-lt-clause-made
returns-else-lt-clause-made g c = λ more later run.
    let above : nat_lt c.args.device c.args.other ≡ false = search rules in
    c.make-else-lt.ensures.made more later (subst (λ (step : Step). IsRun (cluster_of c.args.cluster.now) (done step ∷ more) later) (connect_above c.args.device c.args.other above) run)
