use Rattle.std.proofs.Common.{ℕ, List, ap, sym, subst, ◌∙◌}
use Rattle.std.specs.Ordering.{nat_cmp}
use Rattle.std.specs.Cmp.Lexicographic.{slice_cmp, nat_list_cmp_total}
use Rattle.std.specs.FinMap as map
use Rattle.std.specs.Map.Calls.{CalledAtPair, RetainsPairs}
use Rattle.std.proofs.lemmas.Map.Lookups.{exact_bytes}
use Rattle.bep_map.proofs.MapFacts.{in_order}
use Rattle.bep_map.proofs.folder_map.FolderMap.retain.Goals as goal

pub returns : goal.returns
returns g c =
    subst (λ (es : List (List ℕ × g.row.V.Denot)). RetainsPairs (CalledAtPair g.F.FnMut) c.args.keep es (map.entries {R = slice_cmp nat_cmp} (map.from_entries c.retain.new.self.entries)))
    (sym (in_order nat_list_cmp_total exact_bytes c.self.inside.entries.entries c.retain.ensures.was_ordered) ∙ ap map.entries c.self.view_is)
    (subst (λ (es : List (List ℕ × g.row.V.Denot)). RetainsPairs (CalledAtPair g.F.FnMut) c.args.keep c.self.inside.entries.entries es)
    (sym (in_order nat_list_cmp_total exact_bytes c.retain.new.self.entries c.retain.ensures.ordered)) c.retain.ensures.filtered)
