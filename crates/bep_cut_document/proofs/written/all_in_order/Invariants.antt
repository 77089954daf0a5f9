use Rattle.std.proofs.Common.{◌≡◌, [], map}
use Rattle.std.specs.List.{AllByRecursion}
use Rattle.bep_cut_document.specs.Sorting.{in_order}
use Rattle.bep_cut_document.proofs.written.all_in_order.Given as goal

-- what is made so far with the parts that are left is all that is written
abbrev pub invariant-loop-part : goal.invariant-loop-part
invariant-loop-part g l =
    (in_order g.T.Ordered.order l.made.items (map g.T.FromParts.made_of l.part-iterator.rest.items)
    ≡ in_order g.T.Ordered.order [] (map g.T.FromParts.made_of l.fn.parts))
    × AllByRecursion g.T.FromParts.is_sound l.part-iterator.rest.items
