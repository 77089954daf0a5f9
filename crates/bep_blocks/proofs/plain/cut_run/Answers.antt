use Rattle.std.proofs.Common.{◌≡◌, ◌+◌, ◌-◌, [], ◌∷◌, refl, ap, ◌∙◌, arith}
use Rattle.std.proofs.lemmas.Slice.{pushed}
use Rattle.bep_blocks.specs.Plain.{blocks_from}
use Rattle.bep_blocks.proofs.PlainFacts.{plain-more}
use Rattle.bep_blocks.proofs.plain.cut_run.Goals as goal

pub loop-k-preserved : goal.loop-k-preserved
loop-k-preserved c =
    let first = c.args.first in
    let more : c.loop-k.k - first + 1 ≡ c.loop-k.k + 1 - first = omega arith in
    pushed (c.block_at.result ∷ []) refl c.in_ok-push.was c.push.ensures.items
    ∙ plain-more c.args.block_size c.args.bytes.now first (c.loop-k.k - first) c.loop-k.k c.loop-k.list.items c.block_at.result (omega arith) c.loop-k.invariant c.block_at.ensures
    ∙ ap (blocks_from c.args.block_size c.args.bytes.now first) more
