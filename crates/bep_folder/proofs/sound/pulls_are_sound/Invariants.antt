use Rattle.std.specs.FinMap.{values}
use Rattle.std.specs.List.{AllByRecursion}
use Rattle.bep_folder.specs.inner.Sound.{IsGoodPull}
use Rattle.bep_folder.proofs.sound.pulls_are_sound.Given as goal

-- where those that are left are good, all are
abbrev pub invariant-loop-pull : goal.invariant-loop-pull
invariant-loop-pull l = AllByRecursion IsGoodPull l.pull-iterator → AllByRecursion IsGoodPull (values l.pulls)
