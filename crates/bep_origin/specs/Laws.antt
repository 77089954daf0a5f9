-- Every cut is of a sound cluster; the function of src/laws.rt has this as its contract.
use Rattle.bep_tables.specs.declared.cut.CutParts.{CutParts}
use Rattle.bep_tables.specs.Cut.{IsCut}
use Rattle.bep_origin.specs.FromCut.{HasCluster, IsGoodCut}

-- every cut whose parts are what their types keep is of a sound cluster
abbrev pub CutsHaveClusters : Type 0
CutsHaveClusters = (cut : CutParts) → IsCut cut → IsGoodCut cut → HasCluster cut
