use Rattle.std.proofs.Common.{◌≤◌, ◌+◌, ℕ, take, sym, subst, ◌∙◌, arith, true≢false}
use Rattle.std.specs.Option.{option_copied}
use Rattle.bep_converge_check.specs.SoMany.{AreSoMany}
use Rattle.bep_converge_check.specs.inner.Behind.{IsBehindAmong, IsUpAmong}
use Rattle.bep_converge_check.proofs.BehindFacts.{up_at, behind_at}
use Rattle.bep_converge_check.proofs.behind.count_behind.Goals as goal
use Rattle.bep_converge_check.proofs.behind.count_behind.Goals.{then-not-is_up, else-not-is_up}

pub loop-share-preserved : goal.loop-share-preserved
loop-share-preserved c =
    let place = c.loop-share.share-index in
    let winner = option_copied c.args.winner in
    let few = c.loop-share.invariant.0 in
    let Counted = λ (count : ℕ). (count ≤ place + 1) × AreSoMany (IsBehindAmong winner c.args.name.now (take (place + 1) c.args.shares.now)) (IsUpAmong winner c.args.name.now (take (place + 1) c.args.shares.now)) count in
    elim c.if-not-is_up.branch [
      | then-not-is_up w ↦
          subst Counted (sym w.count-is) (
            omega (arith, few),
            behind_at winner c.args.name.now c.args.shares.now place c.share-item.result c.loop-share-test.true c.share-item.is c.loop-share.count c.loop-share.invariant.1 c.requires
                (λ at. true≢false (sym (c.is_up.ensures.1 at) ∙ w.if-not-is_up.true)),
          )
      | else-not-is_up w ↦
          subst Counted (sym w.count-is) (
            omega (arith, few),
            up_at winner c.args.name.now c.args.shares.now place c.share-item.result c.loop-share-test.true c.share-item.is c.loop-share.count c.loop-share.invariant.1
                (c.is_up.ensures.0 w.if-not-is_up.false),
          )
    ]
