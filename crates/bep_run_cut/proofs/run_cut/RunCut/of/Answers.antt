use Rattle.bep_run_cut.proofs.OneRunFacts.{made_holds, made_if, these_lead}
use Rattle.bep_run_cut.proofs.run_cut.RunCut.of.Goals as goal

pub run_if_whole-requires : goal.run_if_whole-requires
run_if_whole-requires c =
    let are = c.in_ok-parts.ensures in
    these_lead c.args.peers.items c.args.links.items _ _ _ _ _ are.peers are.links are.base_peers are.base_links are.logs
    c.replays_keep_folders.ensures.sharing c.tables_are_found.ensures.found c.tables_are_found.ensures.only are.replayed are.links_replayed

pub returns : goal.returns
returns c =
    let are = c.in_ok-parts.ensures in
    let made = c.run_if_whole.ensures in
    record {
      some = made_if c.args.peers.items c.args.links.items _ _ _ _ _ are.peers are.links are.base_peers are.base_links are.logs c.run_if_whole.result made.some;
      holds = made_holds c.args.peers.items c.args.links.items _ _ _ _ _ are.peers are.links are.base_peers are.base_links are.logs c.run_if_whole.result made.bases made.logs made.present;
    }
