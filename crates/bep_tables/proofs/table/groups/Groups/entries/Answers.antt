use Rattle.std.proofs.Common.{ap, subst, sym}
use Rattle.bep_tables.specs.Listed.{IsGrouped}
use Rattle.bep_tables.specs.inner.Groups.{Grouping}
use Rattle.bep_tables.proofs.Rooms.{all_filled}
use Rattle.bep_tables.proofs.table.groups.Groups.entries.Goals as goal

pub returns : goal.returns
returns c = λ every filled. subst (IsGrouped every) (sym (ap (λ (all : Grouping). all.entries) c.self.view_is)) (all_filled every c.args.self filled)
