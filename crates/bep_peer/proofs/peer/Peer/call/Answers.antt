use Rattle.std.proofs.Common.{◌∙◌, inr}
use Rattle.bep_peer.proofs.WithinFacts.{called_as, told_by, remains_within, only_within, member_within}
use Rattle.bep_peer.proofs.peer.Peer.call.Goals as goal

pub invariant_of-self-2 : goal.invariant_of-self-2
invariant_of-self-2 g c =
    member_within c.self.inside.number c.self.inside.folders c.self.inside.sessions c.self.inside.linked c.args.folder.now c.in-Some.replica.now c.make-answer.new.replica
    c.self.invariant c.in-Some.ensures.value c.make-answer.ensures.steady.stays c.make-answer.ensures.steady.others

pub returns-clause-answers : goal.returns-clause-answers
returns-clause-answers g c =
    inr (called_as (g.C.Call.does c.args.call) c.args.self.now _ c.args.folder.now c.in-Some.replica.now c.make-answer.new.replica c.tell_of.new.self c.make-answer.result c.answered.result
    (c.self.view_is ∙ c.tell_nothing.ensures) c.in-Some.ensures.value c.self.invariant.own c.make-answer.ensures.does c.make-answer.ensures.steady (told_by _ _ _ c.tell_of.ensures c.trace.ensures.value) c.answered.ensures)

pub returns-clause-rest : goal.returns-clause-rest
returns-clause-rest g c =
    remains_within (called_as (g.C.Call.does c.args.call) c.args.self.now _ c.args.folder.now c.in-Some.replica.now c.make-answer.new.replica c.tell_of.new.self c.make-answer.result c.answered.result
    (c.self.view_is ∙ c.tell_nothing.ensures) c.in-Some.ensures.value c.self.invariant.own c.make-answer.ensures.does c.make-answer.ensures.steady (told_by _ _ _ c.tell_of.ensures c.trace.ensures.value) c.answered.ensures)

pub returns-clause-only : goal.returns-clause-only
returns-clause-only g c =
    only_within (called_as (g.C.Call.does c.args.call) c.args.self.now _ c.args.folder.now c.in-Some.replica.now c.make-answer.new.replica c.tell_of.new.self c.make-answer.result c.answered.result
    (c.self.view_is ∙ c.tell_nothing.ensures) c.in-Some.ensures.value c.self.invariant.own c.make-answer.ensures.does c.make-answer.ensures.steady (told_by _ _ _ c.tell_of.ensures c.trace.ensures.value) c.answered.ensures)
