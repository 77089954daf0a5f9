use Rattle.std.proofs.Common.{rules, ◌≡◌, ◌∷◌, List, refl, subst, arith}
use Rattle.bep_core.specs.Applying.{failed_by}
use Rattle.bep_peer.specs.network.Network.{cluster_of}
use Rattle.bep_machine.specs.declared.step.Step.{Step}
use Rattle.bep_play.proofs.PlayFacts.{LeadsSoFar, leads_on, place_among}
use Rattle.bep_play.proofs.play.play.Goals as goal

pub overflow_add-place : goal.overflow_add-place
overflow_add-place c =
    let left : c.loop-step.step-iterator ≡ c.in-Some.step ∷ c.next.new.self = search rules in
    let so_far = subst (λ (rest : List Step). LeadsSoFar (cluster_of c.args.cluster.now) c.args.steps (cluster_of c.loop-step.cluster) rest c.loop-step.told.items c.loop-step.place) left c.loop-step.invariant in
    omega (arith, place_among (cluster_of c.args.cluster.now) c.args.steps (cluster_of c.loop-step.cluster) c.in-Some.step c.next.new.self c.loop-step.told.items c.loop-step.place so_far, c.len-count.ensures.value)

pub loop-step-preserved : goal.loop-step-preserved
loop-step-preserved c =
    let left : c.loop-step.step-iterator ≡ c.in-Some.step ∷ c.next.new.self = search rules in
    leads_on (cluster_of c.args.cluster.now) c.args.steps (cluster_of c.loop-step.cluster) c.in-Some.step c.next.new.self c.loop-step.told.items c.loop-step.place
    (subst (λ (rest : List Step). LeadsSoFar (cluster_of c.args.cluster.now) c.args.steps (cluster_of c.loop-step.cluster) rest c.loop-step.told.items c.loop-step.place) left c.loop-step.invariant)
    (failed_by c.in-Some.step c.apply-answer.new.self.members) (c.apply-answer.ensures.sure (λ _. refl)) c.apply-answer.ensures.node (cluster_of c.apply-answer.new.self) c.apply-answer.result c.tell.new.told.items
    (c.in_ok-tell.ensures.text c.loop-step.invariant.text) c.apply-answer.ensures.step c.in_ok-tell.ensures.tells
