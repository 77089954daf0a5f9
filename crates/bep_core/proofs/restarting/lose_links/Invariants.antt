use Rattle.std.proofs.Common.{◌≡◌}
use Rattle.bep_core.specs.inner.Restart.{left_by}
use Rattle.bep_core.proofs.ListDone.{done}
use Rattle.bep_core.proofs.restarting.lose_links.Given as goal

-- the links before this place were left, and the others are as they were
abbrev pub invariant-loop-link : goal.invariant-loop-link
invariant-loop-link l = l.link-items ≡ done (left_by l.device) l.link-index l.fn.links.items
