use Rattle.std.proofs.Common.{ap, subst, ◌∙◌}
use Rattle.std.specs.Option.{IsSome}
use Rattle.std.specs.Cmp.{nat_cmp_total}
use Rattle.std.specs.FinMap as map
use Rattle.std.proofs.lemmas.Map.Lookups.{exact_unsigned}
use Rattle.bep_map.proofs.MapFacts.{found, given}
use Rattle.bep_map.proofs.Lent.{same_reading}
use Rattle.bep_map.proofs.device_map.DeviceMap.get_mut.Goals as goal

pub returns : goal.returns
returns g c = (
  same_reading c.get_mut.result _ _ _ _
      (λ there w. given nat_cmp_total exact_unsigned c.self.inside.entries.entries (c.get_mut.follows.lender w).entries _ c.args.device w ((c.get_mut.follows.holds w).3 (subst IsSome c.get_mut.ensures.value there)).0 c.self.view_is)
      (ap (λ m. map.from_entries m.entries) c.get_mut.follows.holds-at-none ∙ c.self.view_is),
  record {
    writes_back = tt;
    value = c.get_mut.ensures.value ∙ found nat_cmp_total c.self.inside.entries.entries _ c.args.device c.self.view_is;
  },
)
