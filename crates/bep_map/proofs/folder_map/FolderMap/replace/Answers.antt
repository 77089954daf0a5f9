use Rattle.std.proofs.Common.{rules, ap, sym, ◌∙◌, Some}
use Rattle.std.specs.Cmp.Lexicographic.{nat_list_cmp_total}
use Rattle.std.specs.FinMap as map
use Rattle.std.proofs.lemmas.Map.Lookups.{exact_bytes}
use Rattle.bep_map.proofs.MapFacts.{found, given}
use Rattle.bep_map.proofs.folder_map.FolderMap.replace.Goals as goal

pub returns-in-None-clause-absent : goal.returns-in-None-clause-absent
returns-in-None-clause-absent g c = sym (c.in-None.ensures.value ∙ found nat_list_cmp_total c.self.inside.entries.entries _ c.args.folder.now c.self.view_is)

pub returns-clause-old : goal.returns-clause-old
returns-clause-old g c =
    sym (c.in-Some.ensures.value ∙ found nat_list_cmp_total c.self.inside.entries.entries _ c.args.folder.now c.self.view_is) ∙ ap Some (sym c.replace.ensures.value)

pub returns-clause-ok : goal.returns-clause-ok
returns-clause-ok g c =
    given nat_list_cmp_total exact_bytes c.self.inside.entries.entries _ _ c.args.folder.now c.replace.new.dest ((c.get_mut.follows.holds c.replace.new.dest).3 (search rules)).0 c.self.view_is
    ∙ ap (map.insert _ c.args.folder.now) c.replace.ensures.after
