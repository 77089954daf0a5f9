-- What a run cut holds: the cluster as it was when its logs began, the logs, and the cluster as it is (this project's profile).
use Rattle.std.specs.Prelude.{◌≡◌, ◌++◌, ◌≤◌, List, map, length, refl}
use Rattle.std.specs.Coded.{Coded, code_by, coded×, coded_list}
use Rattle.bep_machine.specs.Sound.{IsSound}
use Rattle.bep_links.specs.Link.{LinkBetween}
use Rattle.bep_peer.specs.Member.{Member}
use Rattle.bep_peer.specs.network.Network.{Network, cluster_of}
use Rattle.bep_log.specs.LoggedLink.{IsLinkReplayed, LoggedBetween}
use Rattle.bep_log.specs.LoggedPeer.{IsReplayed, LoggedMember}
use Rattle.bep_cut.specs.Cut.{cut_at, seen}
use Rattle.bep_cut.specs.Says.{Says, cluster_at}
use Rattle.bep_tables.specs.declared.cut.CutParts.{CutParts}
use Rattle.bep_fit.specs.declared.object.Object.TheVariants as objects
use Rattle.bep_fit.specs.Logs.{ObjectLog}
use Rattle.bep_fit.specs.Replayed.{AreReplayed, AreSoundLogs}
use Rattle.bep_run_cut.specs.Whole.{AreWhole}
use Rattle.bep_run_check.specs.declared.limits.TheConstants.{MAX_OBJECTS}

-- devices and links as they were, their logs, and the same devices and links as they are
pub record RunState : Type 0 where
  pub bases : Network
  pub logs : List ObjectLog
  pub present : Network

-- it is stored as its parts, by the codes of a network and of a log
abbrev pub run_code : Coded Network → Coded ObjectLog → Coded RunState
run_code network log =
    code_by (Network × (List ObjectLog × Network)) (coded× network (coded× (coded_list log) network))
    (λ r. (r.bases, (r.logs, r.present)))
    (λ p. record { bases = p.0; logs = p.1.0; present = p.1.1 })
    (λ _. refl)

-- ---- of copies

abbrev pub device_log : LoggedMember → ObjectLog
device_log copy = record { object = objects.Device copy.now.number; round = copy.round; events = copy.log }

abbrev pub link_log : LoggedBetween → ObjectLog
link_log copy = record { object = objects.Link copy.now.ends.0 copy.now.ends.1; round = copy.round; events = copy.log }

-- the logs of these copies, devices first
abbrev pub logs_of : List LoggedMember → List LoggedBetween → List ObjectLog
logs_of peers links = map device_log peers ++ map link_log links

abbrev pub members_now : List LoggedMember → List Member
members_now = map (λ (copy : LoggedMember). copy.now)

abbrev pub members_base : List LoggedMember → List Member
members_base = map (λ (copy : LoggedMember). copy.base)

abbrev pub links_now : List LoggedBetween → List LinkBetween
links_now = map (λ (copy : LoggedBetween). copy.now)

abbrev pub links_base : List LoggedBetween → List LinkBetween
links_base = map (λ (copy : LoggedBetween). copy.base)

-- the device, or the link, is what its log makes of its base
abbrev pub IsReplayedCopy : LoggedMember → Type 0
IsReplayedCopy copy = IsReplayed copy.now copy.base copy.log

abbrev pub IsLinkReplayedCopy : LoggedBetween → Type 0
IsLinkReplayedCopy copy = IsLinkReplayed copy.now copy.base copy.log

-- they are these, but for what their last actions told
pub record AreTheSame (network : Network) (members : List Member) (links : List LinkBetween) : Type 0 where
  pub devices_same : map seen network.members ≡ map seen members
  pub links_same : network.links ≡ links

-- it holds the copies: each device and each link as it is and as it was, and its log
pub record HoldsCopies (peers : List LoggedMember) (links : List LoggedBetween) (run : RunState) : Type 0 where
  pub bases : AreTheSame run.bases (members_base peers) (links_base links)
  pub logs : run.logs ≡ logs_of peers links
  pub present : AreTheSame run.present (members_now peers) (links_now links)

-- ---- of every run cut

-- The bases are a sound cluster, each device and each link is what its log makes of its base, and edits put nodes.
pub record IsRunCut (run : RunState) : Type 0 where
  pub sound : IsSound (cluster_of run.bases)
  pub replayed : AreReplayed run.logs (cluster_of run.bases) (cluster_of run.present)
  pub nodes : AreSoundLogs run.logs
  pub few : length run.logs ≤ MAX_OBJECTS

-- the cut of the network, which says what the cluster does
pub record IsCutOf (network : Network) (cut : CutParts) : Type 0 where
  pub cut_of : cut ≡ cut_at network.members network.links
  pub says : Says (cluster_of network) cut

-- where they are whole, so are the bases, and these logs, as many as can be checked, lead from the bases to them
abbrev pub PartsLead : List Member → List LinkBetween → List Member → List LinkBetween → List ObjectLog → Type 0
PartsLead members links bases base_links logs =
    AreWhole members links → AreWhole bases base_links × AreReplayed logs (cluster_at bases base_links) (cluster_at members links) × (length logs ≤ MAX_OBJECTS)
