use Rattle.std.proofs.Common.{◌≡◌, drop}
use Rattle.std.specs.Option.{option_copied}
use Rattle.bep_run_check.specs.inner.Next.{next_of}
use Rattle.bep_run_check.specs.inner.Rest.{lefts}
use Rattle.bep_run_check.proofs.NextFacts.{least_from}
use Rattle.bep_run_check.proofs.next.next_event.Given as goal

-- the least so far with those that are left is the least of all
abbrev pub invariant-loop-one : goal.invariant-loop-one
invariant-loop-one l = least_from (option_copied l.least) (lefts (drop l.one-index l.walk)) ≡ next_of (lefts l.walk)
