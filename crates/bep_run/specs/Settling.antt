-- What becomes of a settled cluster, where no event is a local step or a reset (this project's profile).
use Rattle.std.specs.Prelude.{List, []}
use Rattle.bep_machine.specs.Cluster.{Cluster}
use Rattle.bep_machine.specs.Said.{tables_of_cluster}
use Rattle.bep_model.specs.declared.row.Row.{Row}
use Rattle.bep_model.specs.Settled.{IsSettled}
use Rattle.bep_model.specs.Stays.{SameContents, Stays}

-- Let the cluster be settled for some rows, before. Then each store holds byte for byte what it held, after; and the cluster is
-- settled for its own winners, whose names and contents are those of the rows.
abbrev pub StaysSettled : Cluster → Cluster → Type 0
StaysSettled before after = (rows : List Row) → IsSettled (tables_of_cluster before) rows →
    Stays (tables_of_cluster before) rows [] (tables_of_cluster after) ×
    ((others : List Row) × IsSettled (tables_of_cluster after) others × SameContents rows others)
