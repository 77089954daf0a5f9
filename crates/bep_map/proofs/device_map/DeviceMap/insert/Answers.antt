use Rattle.std.proofs.Common.{◌∙◌}
use Rattle.std.specs.Cmp.{nat_cmp_total}
use Rattle.std.proofs.lemmas.Map.Lookups.{exact_unsigned}
use Rattle.bep_map.proofs.MapFacts.{found, given}
use Rattle.bep_map.proofs.device_map.DeviceMap.insert.Goals as goal

pub returns-clause-old : goal.returns-clause-old
returns-clause-old g c = c.in_ok-insert.ensures.old ∙ found nat_cmp_total c.self.inside.entries.entries _ c.args.device c.self.view_is

pub returns-clause-ok : goal.returns-clause-ok
returns-clause-ok g c =
    given nat_cmp_total exact_unsigned c.self.inside.entries.entries c.insert.new.self.entries _ c.args.device c.args.value c.in_ok-insert.ensures.updates.0 c.self.view_is
