-- Which copies of devices and links can be those of one cluster (this project's profile).
use Rattle.std.specs.Prelude.{◌≤◌, List, length, Contains}
use Rattle.bep_model.specs.Tables.{Device}
use Rattle.bep_links.specs.Link.{LinkBetween}
use Rattle.bep_peer.specs.Member.{Member}
use Rattle.bep_peer.specs.network.Network.{ends_of, in_order}
use Rattle.bep_cut.specs.Parts.{AreParts, Knows}
use Rattle.bep_run_cut.specs.declared.limits.TheConstants.{MAX_LINKS}

-- One of each device and one of each link that the devices know, both rising; the devices agree on who shares what. A link
-- that one device knows is there, and so the other one knows it. 16 devices have 120 links at most.
pub record AreWhole (members : List Member) (links : List LinkBetween) : Type 0 where
  pub parts : AreParts members links
  pub known : (device other : Device) → Knows members device other → Contains (ends_of links) (in_order device other)
  pub few : length links ≤ MAX_LINKS
