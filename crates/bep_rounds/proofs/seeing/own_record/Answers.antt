use Rattle.std.proofs.Common.{◌∙◌, Some, None, sym, ap}
use Rattle.std.specs.FinMap.{get}
use Rattle.bep_index.specs.Listing.{Listing}
use Rattle.bep_rounds.proofs.Owned.{own_told}
use Rattle.bep_rounds.proofs.seeing.own_record.Goals as goal

pub returns-in-None : goal.returns-in-None
returns-in-None g c = sym (own_told c.args.cluster.now c.cluster_is_sound.ensures c.args.device c.args.folder.now c.args.name.now None c.in-None.ensures)

pub returns-in-Some : goal.returns-in-Some
returns-in-Some g c =
    c.get.ensures.value ∙ ap (λ (index : Listing). get index.records c.args.name.now) c.index.ensures
    ∙ sym (own_told c.args.cluster.now c.cluster_is_sound.ensures c.args.device c.args.folder.now c.args.name.now (Some c.in-Some.replica.now.tables) c.in-Some.ensures)
