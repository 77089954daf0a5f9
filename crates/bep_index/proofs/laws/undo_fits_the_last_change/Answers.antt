use Rattle.bep_index.proofs.IndexFacts.{earlier_changes_dont_fit, last_changes_agree}
use Rattle.bep_index.proofs.laws.undo_fits_the_last_change.Goals as goal

pub returns : goal.returns
returns c = record { earlier = earlier_changes_dont_fit; one = last_changes_agree }
