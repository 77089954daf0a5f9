use Rattle.bep_run_cut.proofs.Ticketed.{ticketed}
use Rattle.bep_run_cut.proofs.apart.Parts.add_peer.Goals as goal

pub new-requires : goal.new-requires
new-requires c = ticketed c.into_parts-now.result.log.items _ _ c.into_parts-now.ensures.log c.into_parts-now.ensures.a_history
