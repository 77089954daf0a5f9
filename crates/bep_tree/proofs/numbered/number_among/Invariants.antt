use Rattle.std.proofs.Common.{◌≡◌, ℕ, ◌≤◌, length, None}
use Rattle.json.specs.Json as json
use Rattle.bep_tree.specs.inner.Numbered.{found_among}
use Rattle.bep_tree.proofs.numbered.number_among.Given as goal

-- what is found among the members that are left, behind what was found, is what is found among all
abbrev pub invariant-loop-key : goal.invariant-loop-key
invariant-loop-key l =
    (n : ℕ) × (length l.reader ≤ n) × (found_among l.name None (json.members (json.value l.depth) (length l.initial.reader) l.initial.reader) ≡ found_among l.name l.found (json.members (json.value l.depth) n l.reader))

abbrev pub decreases-loop-key : goal.decreases-loop-key
decreases-loop-key l = length l.reader
