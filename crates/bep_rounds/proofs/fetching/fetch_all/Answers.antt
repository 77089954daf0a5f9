use Rattle.std.proofs.Common.{◌≡◌, ◌+◌, ◌-◌, false, true, Err, [], rules, arith}
use Rattle.bep_peer.specs.network.Network.{cluster_of}
use Rattle.bep_converge.specs.Watched.{FetchesTo, LacksBlocks}
use Rattle.bep_rounds.proofs.Made.{at_err}
use Rattle.bep_rounds.proofs.QuietRuns.{both_runs}
use Rattle.bep_rounds.proofs.Rounds.{fetched_at_end, fetched_one_more, fetched_to, fetches_next, first_fetches, is_not_so, is_so}
use Rattle.bep_rounds.proofs.fetching.fetch_all.Goals as goal

pub loop-block-init : goal.loop-block-init
loop-block-init g c = first_fetches _ _ _ _ _ _ _ (omega arith)

pub loop-block-preserved : goal.loop-block-preserved
loop-block-preserved g c =
    let told : c.lacks_blocks.result ≡ true = search rules in
    fetched_one_more _ _ _ _ _ _ _ _ (cluster_of c.loop-block.cluster) _ (omega arith)
    (is_so (LacksBlocks (cluster_of c.loop-block.cluster) c.args.wanted.now.device c.args.wanted.now.folder c.args.wanted.now.name) c.lacks_blocks.result c.lacks_blocks.ensures told)
    c.fetch.ensures.quiet c.in_ok-fetch.ensures.made c.loop-block.invariant

pub returns-then-not-lacks_blocks-clause-quiet : goal.returns-then-not-lacks_blocks-clause-quiet
returns-then-not-lacks_blocks-clause-quiet g c = c.loop-block.invariant.quiet

pub returns-then-not-lacks_blocks-clause-made : goal.returns-then-not-lacks_blocks-clause-made
returns-then-not-lacks_blocks-clause-made g c =
    let told : c.lacks_blocks.result ≡ false = search rules in
    fetched_to _ _ _ _ _ _ _ (cluster_of c.loop-block.cluster)
    (is_not_so (LacksBlocks (cluster_of c.loop-block.cluster) c.args.wanted.now.device c.args.wanted.now.folder c.args.wanted.now.name) c.lacks_blocks.result c.lacks_blocks.ensures told)
    c.loop-block.invariant

pub returns-in_err-fetch-clause-quiet : goal.returns-in_err-fetch-clause-quiet
returns-in_err-fetch-clause-quiet g c = both_runs _ _ _ c.loop-block.invariant.quiet c.fetch.ensures.quiet

pub returns-in_err-fetch-clause-made : goal.returns-in_err-fetch-clause-made
returns-in_err-fetch-clause-made g c =
    let told : c.lacks_blocks.result ≡ true = search rules in
    let is : c.from_residual.result ≡ Err c.in_err-fetch.field-0.0 = search rules in
    λ later blocks few fetches.
    let next = fetches_next _ _ _ _ _ _ (c.args.most - c.loop-block._block) (c.args.most - (c.loop-block._block + 1)) (cluster_of c.loop-block.cluster) (omega arith)
    (is_so (LacksBlocks (cluster_of c.loop-block.cluster) c.args.wanted.now.device c.args.wanted.now.folder c.args.wanted.now.name) c.lacks_blocks.result c.lacks_blocks.ensures told)
    c.loop-block.invariant later blocks few fetches in
    at_err (FetchesTo c.args.wanted.now.device c.args.wanted.now.owner c.args.wanted.now.folder c.args.wanted.now.name later 0 (cluster_of c.fetch.new.cluster)) c.fetch.new.cluster.members c.from_residual.result c.in_err-fetch.field-0.0 is
    (c.in_err-fetch.ensures.made [] next.next next.run)

pub returns-clause-quiet : goal.returns-clause-quiet
returns-clause-quiet g c = c.loop-block.invariant.quiet

pub returns-clause-made : goal.returns-clause-made
returns-clause-made g c = fetched_at_end _ _ _ _ _ _ _ (cluster_of c.loop-block.cluster) c.loop-block.invariant (omega arith)
