use Rattle.bep_cut.proofs.AgreedParts.{parts_agree}
use Rattle.bep_cut.proofs.sound.parts_are_sound.Goals as goal

pub returns : goal.returns
returns g c = λ parts. c.agreed_is_sound.ensures.agreed (parts_agree c.tables_are_found.ensures.found c.args.peers.now c.args.links.now parts)
