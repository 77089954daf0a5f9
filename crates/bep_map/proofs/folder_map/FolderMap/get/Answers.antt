use Rattle.std.proofs.Common.{◌∙◌}
use Rattle.std.specs.Cmp.Lexicographic.{nat_list_cmp_total}
use Rattle.bep_map.proofs.MapFacts.{found}
use Rattle.bep_map.proofs.folder_map.FolderMap.get.Goals as goal

pub returns : goal.returns
returns g c = c.get.ensures.value ∙ found nat_list_cmp_total c.self.inside.entries.entries _ c.args.folder.now c.self.view_is
