use Rattle.std.proofs.Common.{refl, ap, subst, ◌∙◌}
use Rattle.bep_model.specs.Tables.{Device}
use Rattle.bep_log.specs.ActsOver.{LogsOver}
use Rattle.bep_log.specs.LoggedLink.{LoggedBetween}
use Rattle.bep_log.specs.LoggedPeer.{LoggedMember}
use Rattle.bep_log.specs.Over.{doing_of, ready_for}
use Rattle.bep_log.proofs.OverActed.{device_replayed, link_replayed, over_logs}
use Rattle.bep_log.proofs.OverFacts.{AreToldOver}
use Rattle.bep_log.proofs.logged_peer.LoggedPeer.act_over.Goals as goal

pub invariant_of-self-2 : goal.invariant_of-self-2
invariant_of-self-2 g c =
    let laws = c.actions_are_told.ensures in
    let told : AreToldOver = record { begin = laws.begin; deliver = laws.deliver; announce = laws.announce; ask = laws.ask } in
    let was : LoggedMember = record { now = c.self.inside.peer; base = c.self.inside.base; log = c.self.inside.history.log; round = c.self.inside.history.round; last = c.self.inside.history.last } in
    let between : LoggedBetween = record { now = c.link.inside.link; base = c.link.inside.base; log = c.link.inside.history.log; round = c.link.inside.history.round; last = c.link.inside.history.last } in
    device_replayed told c.args.action c.args.ticket was between c.make-answer.new.peer c.take_trace-told.new.self c.make-answer.new.link
    c.open_both.new.device c.tell_both.new.device c.open_both.new.link c.tell_both.new.link c.make-answer.result c.take_trace-told.result c.self.inside.peer.number c.in_ok-mine.mine c.in_ok-its.its c.is_up.result c.events-events.result
    c.take_trace-told.ensures.taken c.take_trace-told.ensures.value refl
    (c.in_ok-mine.ensures.ready ∙ ap (λ (d : Device). ready_for (doing_of c.args.action) d c.link.inside.link) c.number.ensures)
    (c.in_ok-its.ensures.ready ∙ ap (λ (d : Device). ready_for (doing_of c.args.action) d c.link.inside.link) c.number-2.ensures)
    c.is_up.ensures.value c.events-events.ensures.mine c.events-events.ensures.its
    c.open_both.ensures.same c.tell_both.ensures.log c.open_both.ensures.unmoved c.tell_both.ensures.link_log
    c.make-answer.ensures.step c.make-answer.ensures.rest c.make-answer.ensures.same c.make-answer.ensures.unmoved c.in_ok-mine.ensures.a_link
    c.self.invariant

pub invariant_of-link-2 : goal.invariant_of-link-2
invariant_of-link-2 g c =
    let laws = c.actions_are_told.ensures in
    let told : AreToldOver = record { begin = laws.begin; deliver = laws.deliver; announce = laws.announce; ask = laws.ask } in
    let was : LoggedMember = record { now = c.self.inside.peer; base = c.self.inside.base; log = c.self.inside.history.log; round = c.self.inside.history.round; last = c.self.inside.history.last } in
    let between : LoggedBetween = record { now = c.link.inside.link; base = c.link.inside.base; log = c.link.inside.history.log; round = c.link.inside.history.round; last = c.link.inside.history.last } in
    link_replayed told c.args.action c.args.ticket was between c.make-answer.new.peer c.take_trace-told.new.self c.make-answer.new.link
    c.open_both.new.device c.tell_both.new.device c.open_both.new.link c.tell_both.new.link c.make-answer.result c.take_trace-told.result c.self.inside.peer.number c.in_ok-mine.mine c.in_ok-its.its c.is_up.result c.events-events.result
    c.take_trace-told.ensures.taken c.take_trace-told.ensures.value refl
    (c.in_ok-mine.ensures.ready ∙ ap (λ (d : Device). ready_for (doing_of c.args.action) d c.link.inside.link) c.number.ensures)
    (c.in_ok-its.ensures.ready ∙ ap (λ (d : Device). ready_for (doing_of c.args.action) d c.link.inside.link) c.number-2.ensures)
    c.is_up.ensures.value c.events-events.ensures.mine c.events-events.ensures.its
    c.open_both.ensures.same c.tell_both.ensures.log c.open_both.ensures.unmoved c.tell_both.ensures.link_log
    c.make-answer.ensures.step c.make-answer.ensures.rest c.make-answer.ensures.same c.make-answer.ensures.unmoved c.in_ok-mine.ensures.a_link
    c.link.invariant

pub returns : goal.returns
returns g c =
    let laws = c.actions_are_told.ensures in
    let told : AreToldOver = record { begin = laws.begin; deliver = laws.deliver; announce = laws.announce; ask = laws.ask } in
    let was : LoggedMember = record { now = c.self.inside.peer; base = c.self.inside.base; log = c.self.inside.history.log; round = c.self.inside.history.round; last = c.self.inside.history.last } in
    let between : LoggedBetween = record { now = c.link.inside.link; base = c.link.inside.base; log = c.link.inside.history.log; round = c.link.inside.history.round; last = c.link.inside.history.last } in
    let new : LoggedMember = record { now = c.take_trace-told.new.self; base = c.self.inside.base; log = c.tell_both.new.device.log; round = c.tell_both.new.device.round; last = c.tell_both.new.device.last } in
    let after : LoggedBetween = record { now = c.make-answer.new.link; base = c.link.inside.base; log = c.tell_both.new.link.log; round = c.tell_both.new.link.round; last = c.tell_both.new.link.last } in
    subst (λ (one : LoggedMember). LogsOver (doing_of c.args.action) c.args.ticket one new c.args.link.now after c.answered.result) c.self.view_is
    (subst (λ (one : LoggedBetween). LogsOver (doing_of c.args.action) c.args.ticket was new one after c.answered.result) c.link.view_is
    (over_logs told c.args.action c.args.ticket was between c.make-answer.new.peer c.take_trace-told.new.self c.make-answer.new.link
    c.open_both.new.device c.tell_both.new.device c.open_both.new.link c.tell_both.new.link c.make-answer.result c.take_trace-told.result c.self.inside.peer.number c.in_ok-mine.mine c.in_ok-its.its c.is_up.result c.events-events.result
    c.take_trace-told.ensures.taken c.take_trace-told.ensures.value refl
    (c.in_ok-mine.ensures.ready ∙ ap (λ (d : Device). ready_for (doing_of c.args.action) d c.link.inside.link) c.number.ensures)
    (c.in_ok-its.ensures.ready ∙ ap (λ (d : Device). ready_for (doing_of c.args.action) d c.link.inside.link) c.number-2.ensures)
    c.is_up.ensures.value c.events-events.ensures.mine c.events-events.ensures.its
    c.open_both.ensures.same c.tell_both.ensures.log c.open_both.ensures.unmoved c.tell_both.ensures.link_log
    c.make-answer.ensures.step c.make-answer.ensures.rest c.make-answer.ensures.same c.make-answer.ensures.unmoved c.in_ok-mine.ensures.a_link
    c.tell_both.ensures.round c.tell_both.ensures.last c.tell_both.ensures.link_round c.tell_both.ensures.link_last
    c.in_ok-open_both.ensures.device.0 c.in_ok-open_both.ensures.link.0 c.answered.result c.answered.ensures))
