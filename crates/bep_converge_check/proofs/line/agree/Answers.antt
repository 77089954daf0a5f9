use Rattle.std.proofs.Common.{sym, refl, true≢false, ◌∙◌, arith}
use Rattle.bep_converge_check.proofs.LineFacts.{none_agrees, agree_more, not_agree, agree_from}
use Rattle.bep_converge_check.proofs.line.agree.Goals as goal

pub loop-place-init : goal.loop-place-init
loop-place-init c = none_agrees c.args.sorted.now

pub loop-place-preserved : goal.loop-place-preserved
loop-place-preserved c =
    agree_more c.args.sorted.now c.loop-place.place (omega arith) c.index-sorted-place.result c.index-sorted-place-in-loop-place.result (omega arith) c.index-sorted-place.is c.index-sorted-place-in-loop-place.is c.requires
    c.is_like.ensures.well_formed c.is_like.ensures.next_well_formed (λ equal. c.is_like.ensures.like.0 c.if-not-is_like.false equal.1) c.loop-place.invariant

pub returns-then-not-is_like : goal.returns-then-not-is_like
returns-then-not-is_like c = (
  λ e. absurd (true≢false (sym e)),
  λ agree.
      absurd
      (not_agree c.args.sorted.now c.loop-place.place (omega arith) c.index-sorted-place.result c.index-sorted-place-in-loop-place.result (omega arith) c.index-sorted-place.is c.index-sorted-place-in-loop-place.is c.requires
      c.is_like.ensures.well_formed c.is_like.ensures.next_well_formed (λ like. true≢false (sym (c.is_like.ensures.like.1 like) ∙ c.if-not-is_like.true)) agree),
)

pub returns : goal.returns
returns c = (λ _. agree_from c.args.sorted.now c.loop-place.place (omega arith) c.loop-place.invariant, λ _. refl)
