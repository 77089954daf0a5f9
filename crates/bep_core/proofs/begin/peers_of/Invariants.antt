use Rattle.std.proofs.Common.{◌≡◌, ◌++◌, List, Contains, map}
use Rattle.std.specs.BTreeSet.{btree_set_len}
use Rattle.bep_map.specs.NameMap.{ByName}
use Rattle.bep_model.specs.Tables.{Device}
use Rattle.bep_folder.specs.Held.{Held}
use Rattle.bep_core.specs.Begin.{folders_at, linked_with}
use Rattle.bep_peer.specs.Member.{Member, new_member}
use Rattle.bep_core.proofs.begin.peers_of.Given as goal

-- the devices so far with those that are left are all of them, and these have their folders still
pub record IsMade (begin : Device → Member) (had has : Device → ByName Held) (made : List Member) (left all : List Device) : Type 0 where
  pub whole : made ++ map begin left ≡ map begin all
  pub there : (device : Device) → Contains left device → Contains all device
  pub untaken : (device : Device) → Contains left device → has device ≡ had device

abbrev pub invariant-loop-device : goal.invariant-loop-device
invariant-loop-device g l =
    IsMade (λ device. new_member device (folders_at l.fn.folders device) (linked_with l.numbers l.links.keys device)) (folders_at l.fn.folders) (folders_at l.left) l.made.items l.rest.keys l.numbers

abbrev pub decreases-loop-device : goal.decreases-loop-device
decreases-loop-device g l = btree_set_len l.rest
