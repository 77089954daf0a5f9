use Rattle.std.proofs.Common.{◌≡◌, ◌≤◌, take}
use Rattle.bep_choice.specs.Choice.{candidates_of}
use Rattle.bep_audit.specs.Candidates.{own_by, owned_by}
use Rattle.bep_audit.proofs.candidates.gather.Given as goal

abbrev pub invariant-loop-share : goal.invariant-loop-share
invariant-loop-share l =
    (candidates_of (take l.count l.found) ≡ owned_by (own_by l.owns) (take l.share-index l.shares)) × (l.count ≤ l.share-index)
