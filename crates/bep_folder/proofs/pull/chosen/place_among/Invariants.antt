use Rattle.std.proofs.Common.{ℕ, ◌<◌, slice_index}
use Rattle.bep_folder.proofs.pull.chosen.place_among.Given as goal

-- the devices so far are below this one
abbrev pub invariant-loop-place : goal.invariant-loop-place
invariant-loop-place l = (k : ℕ) → k < l.place → slice_index l.others k < l.device
