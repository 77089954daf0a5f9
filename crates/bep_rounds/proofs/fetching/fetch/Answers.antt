use Rattle.std.proofs.Common.{◌≡◌, ◌∷◌, Err, rules, sym, subst₂}
use Rattle.bep_model.specs.Tables.{Folder, FileName}
use Rattle.bep_machine.specs.declared.step.Step.TheVariants.{Ask, Deliver}
use Rattle.bep_machine.specs.Steps.{IsRun}
use Rattle.bep_peer.specs.network.Network.{cluster_of}
use Rattle.bep_converge.specs.Bring.{done}
use Rattle.bep_rounds.proofs.Made.{at_err}
use Rattle.bep_rounds.proofs.fetching.fetch.Goals as goal

pub returns-clause-made : goal.returns-clause-made
returns-clause-made g c = λ more later run.
    let device = c.args.wanted.now.device in
    let owner = c.args.wanted.now.owner in
    c.make-3.ensures.made more later
    (c.in_ok-make-2.ensures.made (done (Deliver device owner) ∷ more) later
    (c.in_ok-make.ensures.made (done (Deliver owner device) ∷ done (Deliver device owner) ∷ more) later
    (subst₂ (λ (folder : Folder) (name : FileName). IsRun (cluster_of c.args.cluster.now) (done (Ask device owner folder name) ∷ done (Deliver owner device) ∷ done (Deliver device owner) ∷ more) later) (sym c.in_ok-folder.ensures) (sym c.in_ok-copy.ensures) run)))

pub returns-in_err-make-2-clause-made : goal.returns-in_err-make-2-clause-made
returns-in_err-make-2-clause-made g c =
    let is : c.from_residual-in_err-make-2.result ≡ Err c.in_err-make-2.field-0.0 = search rules in
    let device = c.args.wanted.now.device in
    let owner = c.args.wanted.now.owner in
    λ more later run. at_err (IsRun (cluster_of c.make-2.new.cluster) more later) c.make-2.new.cluster.members c.from_residual-in_err-make-2.result c.in_err-make-2.field-0.0 is
    (c.in_err-make-2.ensures.made (done (Deliver device owner) ∷ more) later
    (c.in_ok-make.ensures.made (done (Deliver owner device) ∷ done (Deliver device owner) ∷ more) later
    (subst₂ (λ (folder : Folder) (name : FileName). IsRun (cluster_of c.args.cluster.now) (done (Ask device owner folder name) ∷ done (Deliver owner device) ∷ done (Deliver device owner) ∷ more) later) (sym c.in_ok-folder.ensures) (sym c.in_ok-copy.ensures) run)))

pub returns-in_err-make-clause-made : goal.returns-in_err-make-clause-made
returns-in_err-make-clause-made g c =
    let is : c.from_residual-in_err-make.result ≡ Err c.in_err-make.field-0.0 = search rules in
    let device = c.args.wanted.now.device in
    let owner = c.args.wanted.now.owner in
    λ more later run. at_err (IsRun (cluster_of c.make.new.cluster) more later) c.make.new.cluster.members c.from_residual-in_err-make.result c.in_err-make.field-0.0 is
    (c.in_err-make.ensures.made (done (Deliver owner device) ∷ done (Deliver device owner) ∷ more) later
    (subst₂ (λ (folder : Folder) (name : FileName). IsRun (cluster_of c.args.cluster.now) (done (Ask device owner folder name) ∷ done (Deliver owner device) ∷ done (Deliver device owner) ∷ more) later) (sym c.in_ok-folder.ensures) (sym c.in_ok-copy.ensures) run))
