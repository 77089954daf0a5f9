use Rattle.std.proofs.Common.{subst}
use Rattle.bep_peer.specs.Member.{Member}
use Rattle.bep_peer.specs.Sound.{IsSoundMember}
use Rattle.bep_peer.proofs.SoundFacts.{sound_member}
use Rattle.bep_peer.proofs.peer.Peer.member_is_sound.Goals as goal

pub returns : goal.returns
returns g c =
    let member : Member = record {
      number = c.self.inside.number;
      folders = c.self.inside.folders;
      sessions = c.self.inside.sessions;
      linked = c.self.inside.linked;
      trace = c.self.inside.trace;
    } in
    subst IsSoundMember c.self.view_is (sound_member member c.self.invariant c.number.ensures.positive c.folders_are_sound.ensures c.sessions_are_sound.ensures)
