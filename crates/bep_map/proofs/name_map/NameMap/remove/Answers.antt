use Rattle.std.proofs.Common.{◌∙◌}
use Rattle.std.specs.Cmp.Lexicographic.{nat_list_cmp_total}
use Rattle.std.proofs.lemmas.Map.Lookups.{exact_bytes}
use Rattle.bep_map.proofs.MapFacts.{found, taken}
use Rattle.bep_map.proofs.name_map.NameMap.remove.Goals as goal

pub returns-clause-old : goal.returns-clause-old
returns-clause-old g c = c.remove.ensures.value ∙ found nat_list_cmp_total c.self.inside.entries.entries _ c.args.name.now c.self.view_is

pub returns-clause-removed : goal.returns-clause-removed
returns-clause-removed g c = taken nat_list_cmp_total exact_bytes c.self.inside.entries.entries c.remove.new.self.entries _ c.args.name.now c.remove.ensures.updates.0 c.self.view_is
