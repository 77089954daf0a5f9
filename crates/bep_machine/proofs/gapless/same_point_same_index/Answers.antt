use Rattle.bep_machine.proofs.GapRun.{same_point_same_index_lem}
use Rattle.bep_machine.proofs.gapless.same_point_same_index.Goals as goal

pub returns : goal.returns
returns c = same_point_same_index_lem c.batches_bring_the_index.ensures.whole
