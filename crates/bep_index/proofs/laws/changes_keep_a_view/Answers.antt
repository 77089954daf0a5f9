use Rattle.bep_index.proofs.BatchFacts.{IsView-cleared, IsView-replaced, IsView-amended}
use Rattle.bep_index.proofs.laws.changes_keep_a_view.Goals as goal

pub returns : goal.returns
returns c = record { cleared = IsView-cleared; replaced = IsView-replaced; amended = IsView-amended }
