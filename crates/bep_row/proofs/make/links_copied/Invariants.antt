use Rattle.std.proofs.Common.{◌≡◌, take}
use Rattle.bep_row.proofs.make.links_copied.Given as goal

abbrev pub invariant-loop-link : goal.invariant-loop-link
invariant-loop-link l = l.made.items ≡ take l.link-index l.links
