use Rattle.std.proofs.Common.{◌≡◌, ◌<◌, None, sym, subst}
use Rattle.std.specs.Prelude.{IfSome}
use Rattle.bep_history.specs.View.{IsAbove}
use Rattle.bep_history.proofs.Above.{above_known, above_nobody, nobody_too}
use Rattle.bep_history.proofs.chair.Chair.draw_both.Goals as goal
use Rattle.bep_history.proofs.chair.Chair.draw_both.Goals.{in-Some-Some, in_default, in_default-via-in-Some+in_default, in_default-via-in_default}

pub returns-clause-above : goal.returns-clause-above
returns-clause-above g c =
    let table = g.T.Tabled.table in
    let place = c.self.inside.place in
    let its_place = c.other.inside.place in
    let known = c.args.self.now in
    let its_known = c.args.other.now in
    elim c.match-self.branch [
      | in-Some-Some w ↦
          let above = w.draw_both.ensures.above in
          let ticket = w.draw_both.result in
          subst (λ t. (0 < t) × IfSome known (IsAbove t) × IfSome its_known (IsAbove t)) (sym w.result-is)
          (above.0, above_known place known w.in-Some-Some.place ticket c.self.view_is w.in-Some-Some.is-0 above.1, above_known its_place its_known w.in-Some-Some.its ticket c.other.view_is w.in-Some-Some.is-1 above.2)
      | in_default w ↦
          let nobody : place ≡ None → its_place ≡ None → (0 < c.match-self.result) × IfSome known (IsAbove c.match-self.result) × IfSome its_known (IsAbove c.match-self.result) =
          λ none none'.
          subst (λ t. (0 < t) × IfSome known (IsAbove t) × IfSome its_known (IsAbove t)) (sym w.result-is)
          (w.draw.ensures.above.0, above_nobody place known w.draw.result c.self.view_is none, above_nobody its_place its_known w.draw.result c.other.view_is none') in
          elim w.in_default.branch [
            | in_default-via-in-Some+in_default u ↦ nobody (nobody_too table place its_place c.self.invariant c.other.invariant u.in_default.is-1) u.in_default.is-1
            | in_default-via-in_default u ↦ nobody u.in_default.is-0 (nobody_too table its_place place c.other.invariant c.self.invariant u.in_default.is-0)
          ]
    ]
