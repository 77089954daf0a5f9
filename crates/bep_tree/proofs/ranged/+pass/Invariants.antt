use Rattle.std.proofs.Common.{◌≡◌, ℕ, ◌+◌, ◌*◌, ◌≤◌, length}
use Rattle.json.specs.Json as json
use Rattle.bep_tree.specs.inner.InRange.{items_in_range, members_in_range}
use Rattle.bep_tree.specs.inner.Passed.{after, after_items, after_members}
use Rattle.bep_tree.proofs.ranged.+pass.Given as goal

abbrev pub decreases-pass_value : goal.decreases-pass_value
decreases-pass_value l = 3 * l.depth + 1

abbrev pub decreases-pass_begun : goal.decreases-pass_begun
decreases-pass_begun l = 3 * l.depth

abbrev pub decreases-pass_items : goal.decreases-pass_items
decreases-pass_items l = 3 * l.depth + 2

abbrev pub decreases-pass_members : goal.decreases-pass_members
decreases-pass_members l = 3 * l.depth + 2

-- what follows the items that are left is what follows all
abbrev pub invariant-pass_items-loop-reader : goal.invariant-pass_items-loop-reader
invariant-pass_items-loop-reader l =
    (n : ℕ) × (length l.reader ≤ n) × (after_items l.depth l.initial.reader ≡ after items_in_range (json.items (json.value l.depth) n l.reader)) × (length l.reader ≤ length l.initial.reader)

abbrev pub decreases-pass_items-loop-reader : goal.decreases-pass_items-loop-reader
decreases-pass_items-loop-reader l = length l.reader

abbrev pub invariant-pass_members-loop-reader : goal.invariant-pass_members-loop-reader
invariant-pass_members-loop-reader l =
    (n : ℕ) × (length l.reader ≤ n) × (after_members l.depth l.initial.reader ≡ after members_in_range (json.members (json.value l.depth) n l.reader)) × (length l.reader ≤ length l.initial.reader)

abbrev pub decreases-pass_members-loop-reader : goal.decreases-pass_members-loop-reader
decreases-pass_members-loop-reader l = length l.reader
