use Rattle.std.specs.FinMap.{values}
use Rattle.std.specs.List.{AllByRecursion}
use Rattle.bep_folder.specs.inner.Sound.{IsGoodView}
use Rattle.bep_folder.proofs.sound.views_are_sound.Given as goal

-- where those that are left are good, all are
abbrev pub invariant-loop-view : goal.invariant-loop-view
invariant-loop-view l = AllByRecursion IsGoodView l.view-iterator → AllByRecursion IsGoodView (values l.views)
