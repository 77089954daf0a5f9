use Rattle.std.proofs.Common.{◌∙◌}
use Rattle.std.specs.Cmp.{nat_cmp_total}
use Rattle.std.proofs.lemmas.Map.Lookups.{exact_unsigned}
use Rattle.bep_map.proofs.MapFacts.{found, taken}
use Rattle.bep_map.proofs.device_map.DeviceMap.remove.Goals as goal

pub returns-clause-old : goal.returns-clause-old
returns-clause-old g c = c.remove.ensures.value ∙ found nat_cmp_total c.self.inside.entries.entries _ c.args.device c.self.view_is

pub returns-clause-removed : goal.returns-clause-removed
returns-clause-removed g c = taken nat_cmp_total exact_unsigned c.self.inside.entries.entries c.remove.new.self.entries _ c.args.device c.remove.ensures.updates.0 c.self.view_is
