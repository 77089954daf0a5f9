-- Who has a folder, and who is said to share it.
use Rattle.std.specs.Prelude.{◌≡◌, ◌↔◌, List, Some, Contains, IsSome}
use Rattle.std.specs.FinMap.{get}
use Rattle.bep_model.specs.Tables.{Device, Folder}
use Rattle.bep_machine.specs.Steps.{SharesFolder}
use Rattle.bep_links.specs.Link.{LinkBetween}
use Rattle.bep_peer.specs.Member.{Member}
use Rattle.bep_peer.specs.network.Network.{Network, IsNetwork, between_at, config_of, member_at}

-- the device is one of these, and has the folder
pub record HasFolder (members : List Member) (device : Device) (folder : Folder) : Type 0 where
  pub member : Member
  pub there : Contains members member
  pub number : member.number ≡ device
  pub has : IsSome (get member.folders folder)

-- a device shares a folder exactly where it is there and has it
abbrev pub SharingIsHaving : Type 0
SharingIsHaving = (network : Network) (device : Device) (folder : Folder) → IsNetwork network →
    SharesFolder (config_of network) device folder ↔ HasFolder network.members device folder

-- each device is the one that its number finds
abbrev pub FoundByNumber : Type 0
FoundByNumber = (network : Network) (member : Member) → IsNetwork network → Contains network.members member →
    member_at network.members member.number ≡ Some member

-- each link is the one that its ends find
abbrev pub FoundByEnds : Type 0
FoundByEnds = (network : Network) (between : LinkBetween) → IsNetwork network → Contains network.links between →
    between_at network.links between.ends.0 between.ends.1 ≡ Some between
