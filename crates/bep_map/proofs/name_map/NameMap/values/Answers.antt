use Rattle.std.proofs.Common.{ap, sym, ◌∙◌, map}
use Rattle.std.specs.Cmp.Lexicographic.{nat_list_cmp_total}
use Rattle.std.specs.FinMap as finite
use Rattle.std.proofs.lemmas.Map.Lookups.{exact_bytes}
use Rattle.bep_map.proofs.MapFacts.{in_order}
use Rattle.bep_map.proofs.name_map.NameMap.values.Goals as goal

pub returns : goal.returns
returns g c =
    c.values.ensures.rest ∙ ap (map (λ e. e.1)) (sym (in_order nat_list_cmp_total exact_bytes c.self.inside.entries.entries c.values.ensures.ordered))
    ∙ ap finite.values c.self.view_is
