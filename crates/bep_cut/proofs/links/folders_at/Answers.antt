use Rattle.std.proofs.Common.{◌∙◌, is_some, sym, ap}
use Rattle.std.specs.FinMap.{get}
use Rattle.bep_map.specs.NameMap.{ByName}
use Rattle.bep_folder.specs.Held.{Held}
use Rattle.bep_cut.proofs.LinkFacts.{has_there, has_none}
use Rattle.bep_cut.proofs.links.folders_at.Goals as goal

pub returns-in-Some : goal.returns-in-Some
returns-in-Some g c = λ folder.
    ap (λ (folders : ByName Held). is_some (get folders folder)) c.folders.ensures.value
    ∙ has_there c.tables_are_found.ensures.found c.args.peers.now c.args.device c.in-Some.peer.now folder (sym c.in-Some.ensures)

pub returns-in-None : goal.returns-in-None
returns-in-None g c = λ folder.
    has_none c.tables_are_found.ensures.found c.args.peers.now c.args.device c.args.none.now folder c.requires (sym c.in-None.ensures)
