use Rattle.std.proofs.Common.{◌∙◌, sym, subst}
use Rattle.bep_peer.specs.network.Agreed.{network_of}
use Rattle.bep_cut.specs.Says.{Says, cluster_at}
use Rattle.bep_cut.proofs.AgreedParts.{parts_agree}
use Rattle.bep_cut.proofs.CutFacts.{made_cut, made_is_cut}
use Rattle.bep_cut.proofs.SaidFacts.{cut_says}
use Rattle.bep_cut.proofs.cut.cut_of.Goals as goal

pub of-requires : goal.of-requires
of-requires g c =
    made_is_cut c.args.peers.now c.folders_cut.new.peers c.args.links.now (record { folders = c.new.result; links = c.new-2.result })
    c.in_ok-folders.ensures.seen (c.new.ensures ∙ c.in_ok-folders.ensures.folders) (c.new-2.ensures ∙ c.in_ok-links.ensures.links)
    c.tables_are_found.ensures.found c.requires c.in_ok-folders.ensures.sound c.in_ok-links.ensures.sound

pub returns-clause-cut : goal.returns-clause-cut
returns-clause-cut g c =
    c.of.ensures
    ∙ made_cut c.args.peers.now c.folders_cut.new.peers c.args.links.now (record { folders = c.new.result; links = c.new-2.result })
    c.in_ok-folders.ensures.seen (c.new.ensures ∙ c.in_ok-folders.ensures.folders) (c.new-2.ensures ∙ c.in_ok-links.ensures.links)

pub returns-clause-says : goal.returns-clause-says
returns-clause-says g c =
    let members = c.args.peers.now in
    let links = c.args.links.now in
    subst (Says (cluster_at members links)) (sym (returns-clause-cut g c))
    (cut_says (network_of members links) (parts_agree c.tables_are_found.ensures.found members links c.requires) (c.parts_are_sound.ensures c.requires))
