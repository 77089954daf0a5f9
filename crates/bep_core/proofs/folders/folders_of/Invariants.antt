use Rattle.std.proofs.Common.{◌≡◌, ◌++◌, List, Contains}
use Rattle.std.specs.BTreeMap.{btree_map_len}
use Rattle.bep_config.specs.declared.sharing.Sharing.{Sharing}
use Rattle.bep_model.specs.Tables.{Device, Folder}
use Rattle.bep_core.specs.Begin.{begun_folders, folders_at}
use Rattle.bep_core.proofs.folders.folders_of.Given as goal

-- each device has the folders that were passed, and those before them are left
pub record IsPassed {S B : Type 0} (given : List ((Folder × Device) × Sharing S) → Device → B) (devices : List Device) (made : Device → B) (left all : List ((Folder × Device) × Sharing S)) : Type 0 where
  pub passed : List ((Folder × Device) × Sharing S)
  pub whole : left ++ passed ≡ all
  pub at : (device : Device) → made device ≡ given passed device
  pub there : (share : (Folder × Device) × Sharing S) → Contains left share → Contains devices share.0.1

abbrev pub invariant-loop-share : goal.invariant-loop-share
invariant-loop-share g l =
    IsPassed (begun_folders g.S.Store.contents g.S.Store.faults l.devices l.keys) l.devices (folders_at l.made) l.rest.entries l.fn.shares.entries

abbrev pub decreases-loop-share : goal.decreases-loop-share
decreases-loop-share g l = btree_map_len l.rest
