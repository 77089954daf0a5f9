use Rattle.std.proofs.Common.{ap, ◌∙◌}
use Rattle.atomic_table.specs.declared.shared.Seat.{Seat}
use Rattle.bep_fit.specs.declared.stamped.Stamped.{Stamped}
use Rattle.bep_history.specs.declared.view.View.{View}
use Rattle.bep_history.specs.View.{joined, view_of}
use Rattle.bep_history.proofs.Above.{above_each}
use Rattle.bep_history.proofs.history.History.draw_both.Goals as goal

pub returns-clause-above : goal.returns-clause-above
returns-clause-above g c =
    let old = view_of c.args.seat.now in
    let its = c.replace-its.ensures.value in
    let is = ap (λ (me : _). me.0) c.join.ensures.1 ∙ ap (λ (s : Seat Stamped View). joined old (view_of s)) its in
    let each = above_each c.draw-ticket.result old (view_of c.args.other.now) (view_of c.join.new.seat) is c.draw-ticket.ensures.above.1 in
    (c.draw-ticket.ensures.above.0, each.0, each.1)
