use Rattle.std.proofs.Common.{◌≡◌, length, take}
use Rattle.bep_fit.specs.Walk.{start}
use Rattle.bep_run_check.specs.inner.Rest.{lefts}
use Rattle.bep_run_check.proofs.check.begin.Given as goal

-- before this place all of each log is left
abbrev pub invariant-loop-place : goal.invariant-loop-place
invariant-loop-place l = record {
  long : length l.walk ≡ length l.fn.walk;
  begun : take l.place (lefts l.walk) ≡ start (take l.place l.logs);
}
