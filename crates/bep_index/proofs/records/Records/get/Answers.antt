use Rattle.std.proofs.Common.{◌∙◌}
use Rattle.bep_index.proofs.PlaceFacts.{looked_up}
use Rattle.bep_index.proofs.records.Records.get.Goals as goal

pub returns : goal.returns
returns c = c.get.ensures.value ∙ looked_up c.self.inside.entries.entries c.args.self.now c.args.name.now c.self.invariant c.self.view_is
