use Rattle.bep_model.specs.Reasons.{place_cmp}
use Rattle.bep_audit.proofs.FolderWalk.{AsksFolder}
use Rattle.bep_audit.proofs.WalkFacts.{IsLeftFrom}
use Rattle.bep_audit.proofs.missing.first_missing.Given as goal

abbrev pub invariant-loop-held : goal.invariant-loop-held
invariant-loop-held l = IsLeftFrom place_cmp (AsksFolder l.cut l.rows) l.held-items l.held-index
