use Rattle.std.proofs.Common.{ℕ, ◌<◌, ◌+◌, slice_index}
use Rattle.bep_folder.proofs.replica.rise.Given as goal

-- each device up to the place is below the next
abbrev pub invariant-loop-place : goal.invariant-loop-place
invariant-loop-place l = (k : ℕ) → k + 1 < l.place → slice_index l.devices k < slice_index l.devices (k + 1)
