use Rattle.std.proofs.Common.{◌≡◌, ◌∷◌, ◌++◌, [], refl, ap, ◌∙◌, map}
use Rattle.std.proofs.lemmas.Slice.{pushed}
use Rattle.bep_record.specs.declared.block.Block.{Block}
use Rattle.bep_blocks.proofs.HashesFacts.{cuts-more, hashes-more}
use Rattle.bep_blocks.proofs.hashes.blocks_of_hashes.Goals as goal

pub loop-k-preserved : goal.loop-k-preserved
loop-k-preserved c =
    let all : c.push.new.self.items ≡ c.loop-k.list.items ++ c.block_with.result ∷ [] =
    pushed (c.block_with.result ∷ []) refl c.in_ok-push.was c.push.ensures.items in
    record {
      cut = ap (map (λ (b : Block). (b.offset, b.size))) all
          ∙ cuts-more c.bytes_of-block_size.result c.args.len c.loop-k.k c.loop-k.list.items c.block_with.result c.loop-k.invariant.cut c.block_with.ensures.cut;
      hashes = ap (map (λ (b : Block). b.hash)) all
          ∙ hashes-more c.args.hashes.now c.loop-k.k c.loop-k.list.items c.block_with.result [] c.loop-k-test.true c.loop-k.invariant.hashes c.block_with.ensures.hash;
    }
