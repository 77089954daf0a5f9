use Rattle.std.proofs.Common.{◌∙◌, Result, Err, ap, subst}
use Rattle.bep_core.specs.Applying.{failed_by}
use Rattle.bep_core.specs.Why.{Gives}
use Rattle.bep_core.specs.declared.why.Why.{Why}
use Rattle.bep_machine.specs.Steps.{IsStep}
use Rattle.bep_machine.specs.declared.moved.Moved.{Moved}
use Rattle.bep_peer.specs.network.Network.{cluster_of}
use Rattle.bep_rounds.proofs.Made.{goes_on, none_failed, not_refused}
use Rattle.bep_rounds.proofs.QuietRuns.{one_step}
use Rattle.bep_rounds.proofs.making.make.Goals as goal

pub returns-then-is_some-clause-quiet : goal.returns-then-is_some-clause-quiet
returns-then-is_some-clause-quiet g c =
    one_step c.args.step (failed_by c.args.step c.apply-answer.new.self.members) c.apply-answer.result (cluster_of c.args.cluster.now) (cluster_of c.apply-answer.new.self) c.apply-answer.ensures.step c.requires.quiet c.requires.unreset c.apply-answer.ensures.node

pub returns-in-Ok-clause-quiet : goal.returns-in-Ok-clause-quiet
returns-in-Ok-clause-quiet g c =
    one_step c.args.step (failed_by c.args.step c.apply-answer.new.self.members) c.apply-answer.result (cluster_of c.args.cluster.now) (cluster_of c.apply-answer.new.self) c.apply-answer.ensures.step c.requires.quiet c.requires.unreset c.apply-answer.ensures.node

pub returns-in-Ok-clause-made : goal.returns-in-Ok-clause-made
returns-in-Ok-clause-made g c = λ more later run.
    goes_on c.steps_are_determined.ensures c.args.step (failed_by c.args.step c.apply-answer.new.self.members)
    (none_failed c.args.maker c.args.step c.apply-answer.new.self.members c.failed_in.result c.is_some.result c.requires.maker c.failed_in.ensures c.is_some.ensures c.if-is_some.false)
    (cluster_of c.args.cluster.now) (cluster_of c.apply-answer.new.self) c.cluster_is_sound.ensures more later run c.in-Ok.field-0 c.in-Ok.ensures.step

pub returns-in-Err-Refused-clause-quiet : goal.returns-in-Err-Refused-clause-quiet
returns-in-Err-Refused-clause-quiet g c =
    one_step c.args.step (failed_by c.args.step c.apply-answer.new.self.members) c.apply-answer.result (cluster_of c.args.cluster.now) (cluster_of c.apply-answer.new.self) c.apply-answer.ensures.step c.requires.quiet c.requires.unreset c.apply-answer.ensures.node

pub returns-in-Err-Refused-clause-made : goal.returns-in-Err-Refused-clause-made
returns-in-Err-Refused-clause-made g c = λ more later run.
    let why_is = rw c.in-Err-Refused.is at c.in-Err-Refused.field-0-is in
    not_refused c.steps_are_determined.ensures c.args.step (failed_by c.args.step c.apply-answer.new.self.members)
    (none_failed c.args.maker c.args.step c.apply-answer.new.self.members c.failed_in.result c.is_some.result c.requires.maker c.failed_in.ensures c.is_some.ensures c.if-is_some.false)
    (cluster_of c.args.cluster.now) (cluster_of c.apply-answer.new.self) c.cluster_is_sound.ensures more later run c.in-Err-Refused.refusal
    (subst (λ (answer : Result Moved Why). Gives (IsStep c.args.step (failed_by c.args.step c.apply-answer.new.self.members) (cluster_of c.args.cluster.now)) (cluster_of c.apply-answer.new.self) answer)
    (c.in-Err-Refused.is ∙ ap Err why_is) c.apply-answer.ensures.step)

pub returns-in-Err-ConfigBad : goal.returns-in-Err-ConfigBad
returns-in-Err-ConfigBad g c = record {
  quiet = one_step c.args.step (failed_by c.args.step c.apply-answer.new.self.members) c.apply-answer.result (cluster_of c.args.cluster.now) (cluster_of c.apply-answer.new.self) c.apply-answer.ensures.step c.requires.quiet c.requires.unreset c.apply-answer.ensures.node;
  made = λ more later run. tt;
}
