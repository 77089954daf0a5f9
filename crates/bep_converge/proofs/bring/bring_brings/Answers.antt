use Rattle.bep_converge.proofs.Brought.{bring_brings_lem}
use Rattle.bep_converge.proofs.bring.bring_brings.Goals as goal

pub returns : goal.returns
returns c = bring_brings_lem c.bring_is_watched.ensures
