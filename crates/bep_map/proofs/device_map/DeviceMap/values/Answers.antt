use Rattle.std.proofs.Common.{ap, sym, ◌∙◌, map}
use Rattle.std.specs.Cmp.{nat_cmp_total}
use Rattle.std.specs.FinMap as finite
use Rattle.std.proofs.lemmas.Map.Lookups.{exact_unsigned}
use Rattle.bep_map.proofs.MapFacts.{in_order}
use Rattle.bep_map.proofs.device_map.DeviceMap.values.Goals as goal

pub returns : goal.returns
returns g c =
    c.values.ensures.rest ∙ ap (map (λ e. e.1)) (sym (in_order nat_cmp_total exact_unsigned c.self.inside.entries.entries c.values.ensures.ordered))
    ∙ ap finite.values c.self.view_is
