-- That a run which brings a name to a device leaves one device fewer that isn't at the top of a name (this project's profile).
use Rattle.std.specs.Prelude.{◌+◌, ◌∷◌, ℕ, List}
use Rattle.bep_model.specs.Tables.{Device}
use Rattle.bep_machine.specs.Cluster.{Cluster}
use Rattle.bep_machine.specs.Steps.{IsRun}
use Rattle.bep_machine.specs.Said.{tables_of_cluster}
use Rattle.bep_converge.specs.Prevails.{IsAtTop}
use Rattle.bep_converge.specs.Bring.{bring, IsReady}
use Rattle.bep_converge.specs.Arrival.{Behind, HasAllBehind}

-- of a list of all who are behind, all but the first are one afterwards, if that one is at the top then
abbrev pub FewerAreBehind : Type 0
FewerAreBehind = (turns : ℕ) (cluster later : Cluster) (owner : Device) (first : Behind) (more : List Behind) (batches blocks : ℕ) →
    IsReady (turns + 1) cluster → HasAllBehind (tables_of_cluster cluster) (first ∷ more) →
    IsRun cluster (bring first.device owner first.folder first.name batches blocks) later → IsAtTop ((tables_of_cluster later).own first.device first.folder first.name) first.top →
    HasAllBehind (tables_of_cluster later) more
