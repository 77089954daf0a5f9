use Rattle.std.proofs.Common.{map, set, ap, ◌∙◌}
use Rattle.std.proofs.lemmas.List.{map-set}
use Rattle.bep_tables.specs.Listed.{Listed, listed}
use Rattle.bep_tables.proofs.table.groups.put_at.Goals as goal

pub returns : goal.returns
returns c =
    map-set listed c.args.list.now.items c.args.place c.again.result
    ∙ ap (λ (one : Listed). set (map listed c.args.list.now.items) c.args.place one) c.again.ensures
