use Rattle.std.proofs.Common.{[], subst, sym}
use Rattle.bep_tables.specs.inner.Groups.{Counted, grouping, rising}
use Rattle.bep_tables.proofs.table.groups.Groups.make_room.Goals as goal

pub returns : goal.returns
returns c = λ every counted.
    let was = subst (Counted every) (sym c.self.view_is) counted in
    let groups : Counted every (grouping c.self.inside.groups.items (rising c.self.inside.places.entries) []) = record { counts = was.counts; absent = was.absent } in
    c.in_ok-entries.ensures.room every groups
