use Rattle.std.proofs.Common.{subst}
use Rattle.bep_index.specs.Good.{AreGood}
use Rattle.bep_index.specs.Listing.{Listing}
use Rattle.bep_index.proofs.index.Index.records_are_good.Goals as goal

pub returns-clause-good : goal.returns-clause-good
returns-clause-good c = subst (λ (index : Listing). AreGood index.records) c.self.view_is c.self.invariant.2
