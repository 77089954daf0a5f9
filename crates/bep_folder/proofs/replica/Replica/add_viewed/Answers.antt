use Rattle.std.proofs.Common.{sym, ap, ◌∙◌}
use Rattle.std.specs.FinMap.{get}
use Rattle.bep_folder.specs.Held.{Held}
use Rattle.bep_folder.proofs.WantedFacts.{adds_unknown}
use Rattle.bep_folder.proofs.replica.Replica.add_viewed.Goals as goal

pub returns-in-None : goal.returns-in-None
returns-in-None g c =
    adds_unknown c.args.self.now.device c.args.self.now.tables c.args.names.now c.args.self.now.tables.views c.args.other
    (sym (ap (λ (h : Held). get h.tables.views c.args.other) c.self.view_is) ∙ sym c.in-None.ensures)
