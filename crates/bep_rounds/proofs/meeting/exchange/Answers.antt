use Rattle.std.proofs.Common.{◌≡◌, ◌∷◌, Err, rules}
use Rattle.bep_machine.specs.declared.step.Step.TheVariants.{Begin, Deliver}
use Rattle.bep_machine.specs.Steps.{IsRun}
use Rattle.bep_peer.specs.network.Network.{cluster_of}
use Rattle.bep_converge.specs.Bring.{done}
use Rattle.bep_rounds.proofs.Made.{at_err}
use Rattle.bep_rounds.proofs.QuietRuns.{both_runs}
use Rattle.bep_rounds.proofs.meeting.exchange.Goals as goal

pub returns-clause-quiet : goal.returns-clause-quiet
returns-clause-quiet g c = both_runs _ _ _ c.make.ensures.quiet (both_runs _ _ _ c.make-2.ensures.quiet (both_runs _ _ _ c.make-3.ensures.quiet c.make-4.ensures.quiet))

pub returns-clause-made : goal.returns-clause-made
returns-clause-made g c = λ more later run.
    let device = c.args.wanted.now.device in
    let owner = c.args.wanted.now.owner in
    c.make-4.ensures.made more later
    (c.in_ok-make-3.ensures.made (done (Deliver owner device) ∷ more) later
    (c.in_ok-make-2.ensures.made (done (Deliver device owner) ∷ done (Deliver owner device) ∷ more) later
    (c.in_ok-make.ensures.made (done (Begin owner device) ∷ done (Deliver device owner) ∷ done (Deliver owner device) ∷ more) later run)))

pub returns-in_err-make-3-clause-quiet : goal.returns-in_err-make-3-clause-quiet
returns-in_err-make-3-clause-quiet g c = both_runs _ _ _ c.make.ensures.quiet (both_runs _ _ _ c.make-2.ensures.quiet c.make-3.ensures.quiet)

pub returns-in_err-make-3-clause-made : goal.returns-in_err-make-3-clause-made
returns-in_err-make-3-clause-made g c =
    let is : c.from_residual-in_err-make-3.result ≡ Err c.in_err-make-3.field-0.0 = search rules in
    let device = c.args.wanted.now.device in
    let owner = c.args.wanted.now.owner in
    λ more later run. at_err (IsRun (cluster_of c.make-3.new.cluster) more later) c.make-3.new.cluster.members c.from_residual-in_err-make-3.result c.in_err-make-3.field-0.0 is
    (c.in_err-make-3.ensures.made (done (Deliver owner device) ∷ more) later
    (c.in_ok-make-2.ensures.made (done (Deliver device owner) ∷ done (Deliver owner device) ∷ more) later
    (c.in_ok-make.ensures.made (done (Begin owner device) ∷ done (Deliver device owner) ∷ done (Deliver owner device) ∷ more) later run)))

pub returns-in_err-make-2-clause-quiet : goal.returns-in_err-make-2-clause-quiet
returns-in_err-make-2-clause-quiet g c = both_runs _ _ _ c.make.ensures.quiet c.make-2.ensures.quiet

pub returns-in_err-make-2-clause-made : goal.returns-in_err-make-2-clause-made
returns-in_err-make-2-clause-made g c =
    let is : c.from_residual-in_err-make-2.result ≡ Err c.in_err-make-2.field-0.0 = search rules in
    let device = c.args.wanted.now.device in
    let owner = c.args.wanted.now.owner in
    λ more later run. at_err (IsRun (cluster_of c.make-2.new.cluster) more later) c.make-2.new.cluster.members c.from_residual-in_err-make-2.result c.in_err-make-2.field-0.0 is
    (c.in_err-make-2.ensures.made (done (Deliver device owner) ∷ done (Deliver owner device) ∷ more) later
    (c.in_ok-make.ensures.made (done (Begin owner device) ∷ done (Deliver device owner) ∷ done (Deliver owner device) ∷ more) later run))

pub returns-in_err-make-clause-made : goal.returns-in_err-make-clause-made
returns-in_err-make-clause-made g c =
    let is : c.from_residual.result ≡ Err c.in_err-make.field-0.0 = search rules in
    let device = c.args.wanted.now.device in
    let owner = c.args.wanted.now.owner in
    λ more later run. at_err (IsRun (cluster_of c.make.new.cluster) more later) c.make.new.cluster.members c.from_residual.result c.in_err-make.field-0.0 is
    (c.in_err-make.ensures.made (done (Begin owner device) ∷ done (Deliver device owner) ∷ done (Deliver owner device) ∷ more) later run)
