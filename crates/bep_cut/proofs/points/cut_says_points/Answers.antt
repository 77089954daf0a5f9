use Rattle.bep_cut.proofs.SaidPoints.{has_points}
use Rattle.bep_cut.proofs.points.cut_says_points.Goals as goal

pub returns : goal.returns
returns c = has_points
