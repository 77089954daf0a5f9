use Rattle.std.proofs.Common.{◌≡◌, ◌++◌, map}
use Rattle.std.specs.List.{AllByRecursion}
use Rattle.bep_cut_document.proofs.written.all_as_listed.Given as goal

-- what is made so far with what is made of the parts that are left is all of it
abbrev pub invariant-loop-part : goal.invariant-loop-part
invariant-loop-part g l =
    (l.made.items ++ map g.T.FromParts.made_of l.part-iterator.rest.items ≡ map g.T.FromParts.made_of l.fn.parts)
    × AllByRecursion g.T.FromParts.is_sound l.part-iterator.rest.items
