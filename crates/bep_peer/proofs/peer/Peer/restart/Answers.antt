use Rattle.std.proofs.Common.{rules, ◌∙◌}
use Rattle.std.proofs.lemmas.Map.Made.{map_same_pairs}
use Rattle.bep_machine.specs.Steps.{without_pulls}
use Rattle.bep_peer.proofs.RestartFacts.{AreChanged, changed_held, member_again, remains_again, tables_again}
use Rattle.bep_peer.proofs.peer.Peer.restart.Goals as goal

pub invariant_of-self : goal.invariant_of-self
invariant_of-self g c =
    let all : AreChanged without_pulls c.self.inside.folders c.retain.new.self = map_same_pairs _ (changed_held without_pulls) _ (λ k v b w f' t. search rules) _ _ c.retain.ensures in
    member_again without_pulls c.self.inside.folders c.retain.new.self all c.self.inside.number c.self.inside.sessions c.new.result c.self.inside.linked c.self.invariant c.new.ensures

pub returns-clause-step : goal.returns-clause-step
returns-clause-step g c =
    let all : AreChanged without_pulls c.self.inside.folders c.retain.new.self = map_same_pairs _ (changed_held without_pulls) _ (λ k v b w f' t. search rules) _ _ c.retain.ensures in
    tables_again without_pulls c.args.self.now _ c.retain.new.self c.new.result (c.self.view_is ∙ c.tell_nothing.ensures) all c.new.ensures

pub returns-clause-rest : goal.returns-clause-rest
returns-clause-rest g c =
    let all : AreChanged without_pulls c.self.inside.folders c.retain.new.self = map_same_pairs _ (changed_held without_pulls) _ (λ k v b w f' t. search rules) _ _ c.retain.ensures in
    remains_again without_pulls c.args.self.now _ c.retain.new.self c.new.result (c.self.view_is ∙ c.tell_nothing.ensures) all
