use Rattle.std.proofs.Common.{◌≡◌, ◌<◌, ℕ, List, ◌++◌, All, map}
use Rattle.bep_links.specs.Link.{LinkBetween, new_link}
use Rattle.bep_core.proofs.begin.links_of.Given as goal

-- the links so far with those that are left are all of them
pub record IsPart (made : List LinkBetween) (left all : List (ℕ × ℕ)) : Type 0 where
  pub whole : made ++ map (λ ends. new_link ends.0 ends.1) left ≡ map (λ ends. new_link ends.0 ends.1) all
  pub rising : All (λ ends. ends.0 < ends.1) left

abbrev pub invariant-loop-lower : goal.invariant-loop-lower
invariant-loop-lower g l = IsPart l.made.items l.lower-iterator l.config.links
