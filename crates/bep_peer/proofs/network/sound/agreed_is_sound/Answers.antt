use Rattle.bep_peer.specs.network.Agreed.{network_of}
use Rattle.bep_peer.proofs.network.SoundFacts.{kept_is_agreed, sound_network}
use Rattle.bep_peer.proofs.network.sound.agreed_is_sound.Goals as goal

pub returns-clause-agreed : goal.returns-clause-agreed
returns-clause-agreed g c = λ agreed. sound_network (network_of c.args.peers.now c.args.links.now) agreed c.members_are_sound.ensures c.links_are_sound.ensures

pub returns-clause-kept : goal.returns-clause-kept
returns-clause-kept g c = λ kept. returns-clause-agreed g c (kept_is_agreed (network_of c.args.peers.now c.args.links.now) kept)
