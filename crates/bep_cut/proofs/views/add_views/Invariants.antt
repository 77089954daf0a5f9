use Rattle.std.proofs.Common.{◌≡◌, ◌++◌, drop}
use Rattle.std.specs.List.{AllByRecursion}
use Rattle.bep_cut.specs.Share.{IsIndexIn, views_cut}
use Rattle.bep_cut.proofs.views.add_views.Given as goal

-- the views so far with those of the devices that are left are all of them; where those are of indexes, all are
abbrev pub invariant-loop-other : goal.invariant-loop-other
invariant-loop-other g l = record {
  views : l.views.items ++ views_cut l.replica.tables.views (drop l.other-index l.others) ≡ l.initial.views.items ++ views_cut l.replica.tables.views l.others;
  indexes : AllByRecursion (IsIndexIn l.replica.tables.views) (drop l.other-index l.others) → AllByRecursion (IsIndexIn l.replica.tables.views) l.others;
}
