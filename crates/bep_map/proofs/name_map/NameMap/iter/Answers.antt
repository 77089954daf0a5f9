use Rattle.std.proofs.Common.{ap, sym, ◌∙◌}
use Rattle.std.specs.Cmp.Lexicographic.{nat_list_cmp_total}
use Rattle.std.specs.FinMap as map
use Rattle.std.proofs.lemmas.Map.Lookups.{exact_bytes}
use Rattle.bep_map.proofs.MapFacts.{in_order}
use Rattle.bep_map.proofs.name_map.NameMap.iter.Goals as goal

pub returns : goal.returns
returns g c =
    c.iter.ensures.rest ∙ sym (in_order nat_list_cmp_total exact_bytes c.self.inside.entries.entries c.iter.ensures.ordered)
    ∙ ap map.entries c.self.view_is
