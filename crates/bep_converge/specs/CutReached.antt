-- That the cluster of a cut is one from which such runs can be made (this project's profile).
use Rattle.std.specs.Prelude.{◌≡◌, false}
use Rattle.bep_model.specs.Tables.{Device}
use Rattle.bep_machine.specs.Sound.{IsSound}
use Rattle.bep_machine.specs.Gapless.{IsGapless, IsOfNoLaterIndex}
use Rattle.bep_tables.specs.declared.cut.CutParts.{CutParts}
use Rattle.bep_origin.specs.FromCut.{cluster_from}
use Rattle.bep_converge.specs.Bring.{IsReached}

-- where all links of a cut are down, and no view of it has a gap or is of an index that is still to come, its cluster is reached
abbrev pub CutsAreReached : Type 0
CutsAreReached = (cut : CutParts) → IsSound (cluster_from cut) → IsGapless (cluster_from cut) → IsOfNoLaterIndex (cluster_from cut) →
    ((one other : Device) → ((cluster_from cut).link one other).up ≡ false) → IsReached (cluster_from cut)
