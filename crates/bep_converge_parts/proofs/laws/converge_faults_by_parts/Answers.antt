use Rattle.bep_converge_parts.proofs.Alike.{converge_faults_by_parts_lem}
use Rattle.bep_converge_parts.proofs.laws.converge_faults_by_parts.Goals as goal

pub returns : goal.returns
returns c = converge_faults_by_parts_lem
