use Rattle.std.proofs.Common.{◌<◌, ◌+◌, List, refl, sym, subst, arith}
use Rattle.bep_fit.specs.Walk.{Left}
use Rattle.bep_run_check.specs.inner.Rest.{lefts}
use Rattle.bep_run_check.proofs.Walking.{Walked, all_rise, begins, count_below, ends, fails, goes_down, goes_on, left_in, some_at}
use Rattle.bep_run_check.proofs.walk.walk_along.Goals as goal

pub loop-event-init : goal.loop-event-init
loop-event-init c = subst (λ (walk : List Left). Walked c.args.logs.now walk 0) (sym c.requires.begun) (begins c.walk_finds_verdict.ensures.begins c.args.logs.now c.all_are_logged.ensures)

pub misfit_at-requires : goal.misfit_at-requires
misfit_at-requires c = some_at c.args.logs.now (lefts c.loop-event.walk) c.loop-event.count c.loop-event.invariant c.in-Some.event.now (sym c.in-Some.ensures)

pub returns-then-not-agrees_next : goal.returns-then-not-agrees_next
returns-then-not-agrees_next c =
    fails c.args.logs.now (lefts c.loop-event.walk) c.loop-event.count c.loop-event.invariant c.in-Some.event.now (sym c.in-Some.ensures)
    c.walk_finds_verdict.ensures.fails (all_rise c.args.logs.now c.all_are_logged.ensures) c.requires.rounds
    (λ agrees. let never = c.if-not-agrees_next.ensures.1 agrees in absurd (cc)) c.misfit_at.result c.misfit_at.ensures

pub overflow_add-count : goal.overflow_add-count
overflow_add-count c =
    let low = count_below c.args.logs.now (lefts c.loop-event.walk) c.loop-event.count c.loop-event.invariant c.in-Some.event.now (sym c.in-Some.ensures) in
    let most = c.pass.ensures.bound in
    omega (arith, low, most)

pub loop-event-smaller : goal.loop-event-smaller
loop-event-smaller c =
    subst (λ (walk : List Left). left_in walk < left_in (lefts c.loop-event.walk)) (sym c.pass.ensures.past)
    (goes_down c.in-Some.event.now.ticket (lefts c.loop-event.walk)
    (some_at c.args.logs.now (lefts c.loop-event.walk) c.loop-event.count c.loop-event.invariant c.in-Some.event.now (sym c.in-Some.ensures)))

pub loop-event-preserved : goal.loop-event-preserved
loop-event-preserved c =
    subst (λ (walk : List Left). Walked c.args.logs.now walk (c.loop-event.count + 1)) (sym c.pass.ensures.past)
    (goes_on c.args.logs.now (lefts c.loop-event.walk) c.loop-event.count c.loop-event.invariant c.in-Some.event.now (sym c.in-Some.ensures)
    c.walk_finds_verdict.ensures.goes_on (all_rise c.args.logs.now c.all_are_logged.ensures) (c.if-not-agrees_next.ensures.0 refl))

pub returns : goal.returns
returns c = ends c.walk_finds_verdict.ensures.ends c.args.logs.now (lefts c.loop-event.walk) c.loop-event.count c.requires.rounds c.loop-event.invariant (sym c.in_default.ensures)
