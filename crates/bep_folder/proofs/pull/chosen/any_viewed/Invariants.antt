use Rattle.std.proofs.Common.{◌≡◌, [], take}
use Rattle.bep_folder.specs.inner.Chosen.{viewed_among}
use Rattle.bep_folder.proofs.pull.chosen.any_viewed.Given as goal

abbrev pub invariant-loop-other : goal.invariant-loop-other
invariant-loop-other l = viewed_among l.views l.name (take l.other-index l.others) ≡ []
