use Rattle.std.proofs.Common.{◌∙◌}
use Rattle.std.specs.Cmp.{nat_cmp_total}
use Rattle.bep_map.proofs.MapFacts.{found}
use Rattle.bep_map.proofs.device_map.DeviceMap.get.Goals as goal

pub returns : goal.returns
returns g c = c.get.ensures.value ∙ found nat_cmp_total c.self.inside.entries.entries _ c.args.device c.self.view_is
