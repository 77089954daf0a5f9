use Rattle.std.proofs.Common.{◌∙◌}
use Rattle.std.specs.Cmp.Lexicographic.{nat_list_cmp_total}
use Rattle.std.proofs.lemmas.Map.Lookups.{exact_bytes}
use Rattle.bep_map.proofs.MapFacts.{found, given}
use Rattle.bep_map.proofs.name_map.NameMap.insert.Goals as goal

pub returns-clause-old : goal.returns-clause-old
returns-clause-old g c = c.in_ok-insert.ensures.old ∙ found nat_list_cmp_total c.self.inside.entries.entries _ c.args.name c.self.view_is

pub returns-clause-ok : goal.returns-clause-ok
returns-clause-ok g c =
    given nat_list_cmp_total exact_bytes c.self.inside.entries.entries c.insert.new.self.entries _ c.args.name c.args.value c.in_ok-insert.ensures.updates.0 c.self.view_is
