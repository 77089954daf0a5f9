use Rattle.std.proofs.Common.{subst}
use Rattle.bep_log.specs.Acts.{LogsIn}
use Rattle.bep_log.specs.inner.Local.{copies, does_of, step_of}
use Rattle.bep_log.specs.LoggedPeer.{LoggedMember}
use Rattle.bep_log.proofs.Acted.{act_logs, act_replayed}
use Rattle.bep_log.proofs.LocalFacts.{AreTold}
use Rattle.bep_log.proofs.logged_peer.LoggedPeer.act.Goals as goal

pub invariant_of-self-2 : goal.invariant_of-self-2
invariant_of-self-2 g c =
    let laws = c.actions_are_told.ensures in
    let told : AreTold = record { edit = laws.edit; remove = laws.remove; scan = laws.scan; override_one = laws.override_one; revert = laws.revert; start_pull = laws.start_pull; finish = laws.finish } in
    let was : LoggedMember = record { now = c.self.inside.peer; base = c.self.inside.base; log = c.self.inside.history.log; round = c.self.inside.history.round; last = c.self.inside.history.last } in
    act_replayed told c.args.action c.args.folder.now c.args.ticket was c.make-answer.new.peer c.take_trace-told.new.self c.open.new.self c.tell_of.new.self c.make-answer.result c.take_trace-told.result c.number.result c.in_ok-step.step c.event_told-event.result
    c.take_trace-told.ensures.taken c.take_trace-told.ensures.value c.number.ensures c.in_ok-step.ensures c.event_told-event.ensures
    c.open.ensures.same c.tell_of.ensures.log c.make-answer.ensures.rest c.make-answer.ensures.does c.make-answer.ensures.copied c.make-answer.ensures.kept
    c.self.invariant

pub returns : goal.returns
returns g c =
    let laws = c.actions_are_told.ensures in
    let told : AreTold = record { edit = laws.edit; remove = laws.remove; scan = laws.scan; override_one = laws.override_one; revert = laws.revert; start_pull = laws.start_pull; finish = laws.finish } in
    let was : LoggedMember = record { now = c.self.inside.peer; base = c.self.inside.base; log = c.self.inside.history.log; round = c.self.inside.history.round; last = c.self.inside.history.last } in
    let new : LoggedMember = record { now = c.take_trace-told.new.self; base = c.self.inside.base; log = c.tell_of.new.self.log; round = c.tell_of.new.self.round; last = c.tell_of.new.self.last } in
    subst (λ (before : LoggedMember). LogsIn (copies c.args.action) c.args.folder.now (does_of c.args.action before.now.number c.args.folder.now) (step_of c.args.action before.now.number c.args.folder.now) c.args.ticket before new c.answered.result) c.self.view_is
    (act_logs told c.args.action c.args.folder.now c.args.ticket was c.make-answer.new.peer c.take_trace-told.new.self c.open.new.self c.tell_of.new.self c.make-answer.result c.take_trace-told.result c.number.result c.in_ok-step.step c.event_told-event.result
    c.take_trace-told.ensures.taken c.take_trace-told.ensures.value c.number.ensures c.in_ok-step.ensures c.event_told-event.ensures
    c.open.ensures.same c.tell_of.ensures.log c.make-answer.ensures.rest c.make-answer.ensures.does c.make-answer.ensures.copied c.make-answer.ensures.kept
    c.tell_of.ensures.round c.tell_of.ensures.last c.in_ok-open.ensures.open c.answered.result c.answered.ensures)
