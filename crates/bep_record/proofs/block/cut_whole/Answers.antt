use Rattle.std.proofs.Common.{◌≡◌, length, sym, ◌∙◌, arith, rules}
use Rattle.bep_record.proofs.Cuts.{count-CutWhole, at-CutWhole, cuts_more, cuts_all}
use Rattle.bep_record.proofs.block.cut_whole.Goals as goal

pub returns-then-blocks-block_count : goal.returns-then-blocks-block_count
returns-then-blocks-block_count c =
    (search rules, λ whole. absurd (c.if-blocks-block_count.true (count-CutWhole _ _ _ whole ∙ sym c.block_count.ensures)))

pub returns-then-not-is_cut_at : goal.returns-then-not-is_cut_at
returns-then-not-is_cut_at c =
    (search rules, λ whole. c.if-not-is_cut_at.ensures.1 (at-CutWhole _ _ _ _ _ whole c.loop-place-test.true))

pub loop-place-preserved : goal.loop-place-preserved
loop-place-preserved c =
    cuts_more _ _ _ _ _ c.loop-place-test.true c.loop-place.invariant (c.is_cut_at.ensures.0 (search rules))

pub returns : goal.returns
returns c =
    let all : c.loop-place.place ≡ length c.args.blocks.now = omega arith in
    let counted = all ∙ c.if-blocks-block_count.false ∙ c.block_count.ensures in
    (λ _. cuts_all _ _ _ _ c.loop-place-test.false counted c.loop-place.invariant, search rules)
