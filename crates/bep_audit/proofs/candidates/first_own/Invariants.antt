use Rattle.std.proofs.Common.{◌≡◌, [], take}
use Rattle.bep_audit.specs.Candidates.{own_by, owned_by}
use Rattle.bep_audit.proofs.candidates.first_own.Given as goal

abbrev pub invariant-loop-share : goal.invariant-loop-share
invariant-loop-share l = owned_by (own_by l.owns) (take l.share-index l.shares) ≡ []
