use Rattle.std.proofs.Common.{◌∙◌, Err, ◌≡◌, ◌<◌, List, [], ◌++◌, length, get_or, drop, map, flat_map, sym, ap, subst, arith}
use Rattle.std.specs.List.{AllByRecursion}
use Rattle.std.proofs.lemmas.List.{append-nil, drop_all, length-map}
use Rattle.std.proofs.lemmas.Result.{err_from_is_err_and}
use Rattle.bep_peer.specs.Member.{Member}
use Rattle.bep_cut.specs.Cut.{IsSoundIn, Seen, seen, share_at}
use Rattle.bep_cut.specs.Parts.{faults_of}
use Rattle.bep_cut.proofs.FolderFacts.{counts_all, each_next, gathered_next, still_same}
use Rattle.bep_cut.proofs.folder.shares_at.Goals as goal

pub returns-in_err-add_share-clause-seen : goal.returns-in_err-add_share-clause-seen
returns-in_err-add_share-clause-seen g c =
    let below : c.loop-peer.peer-index < length c.loop-peer.peers = let t = c.loop-peer-test.true in let l = c.loop-peer.auto.peers in omega arith in
    still_same c.args.peers.now c.loop-peer.peers c.loop-peer.peer-index (get_or c.loop-peer.peers c.loop-peer.peer-index c.peer-item.result) c.add_share.new.peer below (ap (get_or c.loop-peer.peers c.loop-peer.peer-index) c.peer-item.is) seen c.in_err-add_share.ensures.seen c.loop-peer.invariant.same

pub returns-in_err-add_share-clause-linked : goal.returns-in_err-add_share-clause-linked
returns-in_err-add_share-clause-linked g c =
    let below : c.loop-peer.peer-index < length c.loop-peer.peers = let t = c.loop-peer-test.true in let l = c.loop-peer.auto.peers in omega arith in
    still_same c.args.peers.now c.loop-peer.peers c.loop-peer.peer-index (get_or c.loop-peer.peers c.loop-peer.peer-index c.peer-item.result) c.add_share.new.peer below (ap (get_or c.loop-peer.peers c.loop-peer.peer-index) c.peer-item.is) (λ (m : Member). m.linked) c.in_err-add_share.ensures.linked c.loop-peer.invariant.linked

pub returns-in_err-add_share-clause-counts : goal.returns-in_err-add_share-clause-counts
returns-in_err-add_share-clause-counts g c =
    let below : c.loop-peer.peer-index < length c.loop-peer.peers = let t = c.loop-peer-test.true in let l = c.loop-peer.auto.peers in omega arith in
    let error = err_from_is_err_and c.from_residual.result c.from_residual.ensures.1 in
    counts_all c.args.peers.now c.loop-peer.peers c.loop-peer.peer-index (get_or c.loop-peer.peers c.loop-peer.peer-index c.peer-item.result) c.add_share.new.peer below (ap (get_or c.loop-peer.peers c.loop-peer.peer-index) c.peer-item.is)
    c.from_residual.result c.in_err-add_share.field-0.0 (error.1 ∙ ap Err error.2) c.loop-peer.invariant.counts c.in_err-add_share.ensures.counts

pub loop-peer-preserved : goal.loop-peer-preserved
loop-peer-preserved g c =
    let below : c.loop-peer.peer-index < length c.loop-peer.peers = let t = c.loop-peer-test.true in let l = c.loop-peer.auto.peers in omega arith in
    let first = c.args.peers.now in
    let all = c.loop-peer.peers in
    let place = c.loop-peer.peer-index in
    let one = get_or all place c.peer-item.result in
    let is : one ≡ get_or all place one = ap (get_or all place) c.peer-item.is in
    let other = c.add_share.new.peer in
    let before = c.loop-peer.invariant in record {
      same = still_same first all place one other below is seen c.in_ok-add_share.ensures.seen before.same;
      linked = still_same first all place one other below is (λ (m : Member). m.linked) c.in_ok-add_share.ensures.linked before.linked;
      counts = still_same first all place one other below is faults_of c.in_ok-add_share.ensures.counts before.counts;
      made = gathered_next first all place one other below is (share_at c.args.folder.now) c.loop-peer.shares.items c.add_share.new.shares.items _ before.same c.in_ok-add_share.ensures.share before.made;
      each = λ later. before.each (each_next first all place one other below is (IsSoundIn c.args.folder.now) before.same c.in_ok-add_share.ensures.sound later);
    }

pub returns : goal.returns
returns g c =
    let all = map seen c.args.peers.now in
    let none : drop c.loop-peer.peer-index all ≡ [] = drop_all c.loop-peer.peer-index all (omega (arith, length-map c.args.peers.now seen, c.loop-peer-test.false)) in
    record {
      shares =
          sym (append-nil c.loop-peer.shares.items)
          ∙ ap (λ (left : List Seen). c.loop-peer.shares.items ++ flat_map (share_at c.args.folder.now) left) (sym none)
          ∙ c.loop-peer.invariant.made;
      sound = c.loop-peer.invariant.each (subst (AllByRecursion (IsSoundIn c.args.folder.now)) (sym none) tt);
      seen = c.loop-peer.invariant.same;
      linked = c.loop-peer.invariant.linked;
      counts = c.loop-peer.invariant.counts;
    }
