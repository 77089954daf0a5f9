use Rattle.std.proofs.Common.{◌≡◌, ◌+◌, ◌-◌, ◌/◌, Err, [], rules, arith}
use Rattle.bep_index.specs.declared.limits.TheConstants.{MAX_RECORDS}
use Rattle.bep_peer.specs.network.Network.{cluster_of}
use Rattle.bep_converge.specs.Watched.{HasHeardUpTo, HearsTo}
use Rattle.bep_rounds.proofs.Made.{at_err}
use Rattle.bep_rounds.proofs.QuietRuns.{both_runs}
use Rattle.bep_rounds.proofs.Rounds.{first_hears, heard_at_end, heard_one_more, heard_to, hears_next, is_not_so, is_so}
use Rattle.bep_rounds.proofs.hearing.hear_all.Goals as goal

pub loop-round-init : goal.loop-round-init
loop-round-init g c = first_hears _ _ _ _ _ _ _ _ (omega arith)

pub loop-round-preserved : goal.loop-round-preserved
loop-round-preserved g c =
    heard_one_more _ _ _ _ _ _ _ _ _ (cluster_of c.loop-round.cluster) _ (omega arith)
    (is_not_so (HasHeardUpTo (cluster_of c.loop-round.cluster) c.args.wanted.now.device c.args.wanted.now.owner c.args.wanted.now.folder c.args.sequence) c.has_heard.result c.has_heard.ensures c.if-has_heard.false)
    c.hear.ensures.quiet c.in_ok-hear.ensures.made c.loop-round.invariant

pub returns-then-has_heard-clause-quiet : goal.returns-then-has_heard-clause-quiet
returns-then-has_heard-clause-quiet g c = c.loop-round.invariant.quiet

pub returns-then-has_heard-clause-made : goal.returns-then-has_heard-clause-made
returns-then-has_heard-clause-made g c =
    heard_to _ _ _ _ _ _ _ _ (cluster_of c.loop-round.cluster)
    (is_so (HasHeardUpTo (cluster_of c.loop-round.cluster) c.args.wanted.now.device c.args.wanted.now.owner c.args.wanted.now.folder c.args.sequence) c.has_heard.result c.has_heard.ensures c.if-has_heard.true)
    c.loop-round.invariant

pub returns-in_err-hear-clause-quiet : goal.returns-in_err-hear-clause-quiet
returns-in_err-hear-clause-quiet g c = both_runs _ _ _ c.loop-round.invariant.quiet c.hear.ensures.quiet

pub returns-in_err-hear-clause-made : goal.returns-in_err-hear-clause-made
returns-in_err-hear-clause-made g c =
    let is : c.from_residual.result ≡ Err c.in_err-hear.field-0.0 = search rules in
    λ later blocks batches few hears.
    let next = hears_next _ _ _ _ _ _ _ (c.args.sequence / MAX_RECORDS + 1 - c.loop-round._round) (c.args.sequence / MAX_RECORDS + 1 - (c.loop-round._round + 1)) (cluster_of c.loop-round.cluster) (omega arith)
    (is_not_so (HasHeardUpTo (cluster_of c.loop-round.cluster) c.args.wanted.now.device c.args.wanted.now.owner c.args.wanted.now.folder c.args.sequence) c.has_heard.result c.has_heard.ensures c.if-has_heard.false)
    c.loop-round.invariant later blocks batches few hears in
    at_err (HearsTo c.args.wanted.now.device c.args.wanted.now.owner c.args.wanted.now.folder c.args.wanted.now.name c.args.sequence later blocks 0 (cluster_of c.hear.new.cluster)) c.hear.new.cluster.members c.from_residual.result c.in_err-hear.field-0.0 is
    (c.in_err-hear.ensures.made [] next.next next.run)

pub returns-clause-quiet : goal.returns-clause-quiet
returns-clause-quiet g c = c.loop-round.invariant.quiet

pub returns-clause-made : goal.returns-clause-made
returns-clause-made g c = heard_at_end _ _ _ _ _ _ _ _ (cluster_of c.loop-round.cluster) c.loop-round.invariant (omega arith)
