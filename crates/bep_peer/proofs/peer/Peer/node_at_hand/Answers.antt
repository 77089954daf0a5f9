use Rattle.std.proofs.Common.{sym}
use Rattle.std.specs.Option.{option_copied}
use Rattle.bep_peer.proofs.RequestFacts.{hand_of}
use Rattle.bep_peer.proofs.peer.Peer.node_at_hand.Goals as goal

pub returns-in-Some : goal.returns-in-Some
returns-in-Some g c =
    rw (← c.self.view_is)
    (hand_of _ c.args.folder.now c.args.name.now c.in-Some.replica.now (option_copied c.at_hand.result) (sym c.in-Some.ensures) c.at_hand.ensures)
