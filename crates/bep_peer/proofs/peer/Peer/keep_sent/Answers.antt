use Rattle.std.proofs.Common.{◌≡◌, Some, sym, subst}
use Rattle.std.specs.FinMap as map
use Rattle.bep_machine.specs.Exchange.{IsNamed}
use Rattle.bep_machine.specs.Peer.{Session}
use Rattle.bep_peer.specs.Member.{Member}
use Rattle.bep_peer.proofs.AnnounceFacts.{still_shared}
use Rattle.bep_peer.proofs.peer.Peer.keep_sent.Goals as goal

pub invariant_of-self : goal.invariant_of-self
invariant_of-self g c =
    let there = subst (λ (member : Member). (session : Session) × (map.get member.sessions c.args.other ≡ Some session) × IsNamed session c.args.folder.now) (sym c.self.view_is) c.requires in
    record {
      own = c.self.invariant.own;
      named = still_shared c.self.inside.folders c.self.inside.sessions c.advance.new.sessions c.args.other there.0 c.args.folder.now c.args.sequence c.self.invariant.named there.1 there.2 (c.advance.ensures there.0 there.1 there.2);
      linked_to = c.self.invariant.linked_to;
    }
