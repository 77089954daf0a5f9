use Rattle.std.proofs.Common.{◌<◌, sym, subst}
use Rattle.std.specs.Prelude.{IfSome}
use Rattle.bep_history.specs.View.{IsAbove}
use Rattle.bep_history.proofs.Above.{above_known, above_nobody}
use Rattle.bep_history.proofs.chair.Chair.draw.Goals as goal
use Rattle.bep_history.proofs.chair.Chair.draw.Goals.{in-Some, in-None}

pub returns-clause-above : goal.returns-clause-above
returns-clause-above g c =
    let place = c.self.inside.place in
    let known = c.args.self.now in
    elim c.match-self.branch [
      | in-Some w ↦
          let above = w.draw.ensures.above in
          subst (λ t. (0 < t) × IfSome known (IsAbove t)) (sym w.result-is)
          (above.0, above_known place known w.in-Some.place w.draw.result c.self.view_is w.in-Some.is above.1)
      | in-None w ↦
          subst (λ t. (0 < t) × IfSome known (IsAbove t)) (sym w.result-is)
          (w.draw-in-None.ensures.above.0, above_nobody place known w.draw-in-None.result c.self.view_is w.in-None.is)
    ]
