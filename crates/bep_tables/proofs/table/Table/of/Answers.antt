use Rattle.std.proofs.Common.{[], sym, subst}
use Rattle.std.proofs.lemmas.List.{append-nil}
use Rattle.bep_tables.specs.Listed.{cut_listed}
use Rattle.bep_tables.specs.inner.Groups.{Counted}
use Rattle.bep_tables.proofs.GroupFacts.{none_counted}
use Rattle.bep_tables.proofs.table.Table.of.Goals as goal

pub returns : goal.returns
returns c =
    let all = cut_listed c.args.cut.now in
    let counted = c.in_ok-add_cut.ensures.counted [] (subst (Counted []) (sym c.new-groups.ensures) none_counted) in
    let room = c.in_ok-make_room.ensures all counted in
    c.entries.ensures all (c.in_ok-add_cut-2.ensures.filled all [] [] (sym (append-nil all)) room)
