use Rattle.std.proofs.Common.{ap, subst, ◌∙◌}
use Rattle.std.specs.Option.{IsSome}
use Rattle.std.specs.Cmp.Lexicographic.{nat_list_cmp_total}
use Rattle.std.specs.FinMap as map
use Rattle.std.proofs.lemmas.Map.Lookups.{exact_bytes}
use Rattle.bep_map.proofs.MapFacts.{found, given}
use Rattle.bep_map.proofs.Lent.{same_reading}
use Rattle.bep_map.proofs.name_map.NameMap.get_mut.Goals as goal

pub returns : goal.returns
returns g c = (
  same_reading c.get_mut.result _ _ _ _
      (λ there w. given nat_list_cmp_total exact_bytes c.self.inside.entries.entries (c.get_mut.follows.lender w).entries _ c.args.name.now w ((c.get_mut.follows.holds w).3 (subst IsSome c.get_mut.ensures.value there)).0 c.self.view_is)
      (ap (λ m. map.from_entries m.entries) c.get_mut.follows.holds-at-none ∙ c.self.view_is),
  record {
    writes_back = tt;
    value = c.get_mut.ensures.value ∙ found nat_list_cmp_total c.self.inside.entries.entries _ c.args.name.now c.self.view_is;
  },
)
