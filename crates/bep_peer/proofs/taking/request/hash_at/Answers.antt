use Rattle.std.proofs.Common.{sym}
use Rattle.bep_peer.proofs.RequestFacts.{hash_of_held, same_folder}
use Rattle.bep_peer.proofs.taking.request.hash_at.Goals as goal

pub returns-in-Some-clause-hash : goal.returns-in-Some-clause-hash
returns-in-Some-clause-hash g c =
    hash_of_held c.args.folders.now c.args.request.now.folder c.args.request.now.name c.args.request.now.offset c.args.request.now.size c.in-Some.replica.now c.hash_at_hand.result
    (sym c.in-Some.ensures.value) c.hash_at_hand.ensures.hash

pub returns-in-Some-clause-same : goal.returns-in-Some-clause-same
returns-in-Some-clause-same g c =
    same_folder c.args.folders.now c.args.request.now.folder c.in-Some.replica.now c.hash_at_hand.new.self (sym c.in-Some.ensures.value) c.hash_at_hand.ensures.same
