use Rattle.std.proofs.Common.{◌-◌, true≢false, refl, sym, arith}
use Rattle.bep_document.proofs.faults.RisingFacts.{rise_by_steps, no_rise}
use Rattle.bep_document.proofs.faults.judge.keys_rise.Goals as goal

pub returns-then-not-is_lt : goal.returns-then-not-is_lt
returns-then-not-is_lt g c =
    let place = c.loop-place.place in
    let before = c.index-items-place in
    let here = c.index-items-place-in-loop-place in (
      (λ yes. absurd (true≢false (sym yes))),
      (λ rise. absurd (no_rise g.J.Key.Ord.cmp g.J.JudgeKeyed.key_of c.args.items.now (place - 1) place before.result here.result c.compare-order.result c.is_lt.result (omega (arith, c.loop-place.auto.place)) c.loop-place-test.true before.is here.is c.compare-order.ensures c.is_lt.ensures c.if-not-is_lt.true rise)),
    )

pub returns : goal.returns
returns g c = (
  (λ yes. rise_by_steps g.J.Key.Ord.cmp g.J.JudgeKeyed.key_of g.met.J.Key.Ord.total c.args.items.now (λ k d below. c.loop-place.invariant k d (omega (arith, c.loop-place-test.false, below)))),
  (λ rise. refl),
)
