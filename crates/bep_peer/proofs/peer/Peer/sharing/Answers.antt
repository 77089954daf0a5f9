use Rattle.std.proofs.Common.{rules}
use Rattle.bep_peer.proofs.SharingFacts.{none_at_hand, not_shared_at_hand}
use Rattle.bep_peer.proofs.peer.Peer.sharing.Goals as goal

pub returns-in_default-clause-none : goal.returns-in_default-clause-none
returns-in_default-clause-none g c = none_at_hand (record { member = c.args.self.now; link = c.args.link.now }) c.args.folder.now c.in_default.ensures.none

pub returns-then-not-shares-clause-none : goal.returns-then-not-shares-clause-none
returns-then-not-shares-clause-none g c =
    not_shared_at_hand (record { member = c.args.self.now; link = c.args.link.now }) c.args.folder.now c.in-Some.other c.in-Some.ensures.some (search rules)

pub returns-clause-some : goal.returns-clause-some
returns-clause-some g c = (c.in-Some.ensures.some, c.shares.ensures.0 (search rules))
