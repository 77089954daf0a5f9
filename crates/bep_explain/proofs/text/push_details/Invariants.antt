use Rattle.std.proofs.Common.{◌≡◌, ◌++◌, drop, map}
use Rattle.std.specs.List.{flat_map}
use Rattle.bep_explain.specs.Told.{detail_line}
use Rattle.bep_explain.proofs.text.push_details.Given as goal

-- the text so far, with the lines of the details that are left, is the whole
abbrev pub invariant-loop-said : goal.invariant-loop-said
invariant-loop-said l =
    l.text.items ++ flat_map detail_line (map (λ said. said.items) (drop l.said-index l.details)) ≡ l.fn.text.items ++ flat_map detail_line (map (λ said. said.items) l.details)
