use Rattle.std.proofs.Common.{◌≡◌, ◌++◌, take, drop}
use Rattle.std.specs.List.{flat_map}
use Rattle.bep_converge_answer.specs.inner.Told.{lent_line}
use Rattle.bep_converge_answer.proofs.lines.push_each.Given as goal

-- the text so far with the lines of the folders that are left is the whole; the old text stands at its front
abbrev pub invariant-loop-one : goal.invariant-loop-one
invariant-loop-one l = record {
  whole : l.text.items ++ flat_map lent_line (drop l.one-index l.folders) ≡ l.fn.text.items ++ flat_map lent_line l.folders;
  front : take l.len l.text.items ≡ l.fn.text.items;
}
