-- What a lock keeps of its device or link (this project's profile).
use Rattle.std.specs.Prelude.{◌≡◌, ℕ, true, List, [], ◌∷◌, map, Option, Some, None, option_map}
use Rattle.atomic_table.specs.Seated.{TableId}
use Rattle.bep_fit.specs.declared.object.Object.{Object}
use Rattle.bep_fit.specs.declared.object.Object.TheVariants as objects
use Rattle.bep_fit.specs.declared.stamped.Stamped.{Stamped}
use Rattle.bep_fit.specs.Fit.{Fits}
use Rattle.bep_fit.specs.Logs.{ObjectLog}
use Rattle.bep_fit.specs.Replayed.{objects_of}
use Rattle.bep_history.specs.Chair.{named_or}
use Rattle.bep_history.specs.View.{beginning, row, view}
use Rattle.bep_history.specs.declared.view.View.{View}
use Rattle.bep_log.specs.LoggedLink.{LoggedBetween}
use Rattle.bep_log.specs.LoggedPeer.{LoggedMember}
use Rattle.bep_links.specs.Link.{LinkBetween}
use Rattle.bep_peer.specs.Member.{Member}
use Rattle.bep_peer.specs.network.Network.{Network, cluster_of}
use Rattle.bep_run.specs.Based.{began_as}
use Rattle.bep_run.specs.Origin.{at_place, devices_in, links_in}
use Rattle.bep_run.specs.Quiet.{quiet_log}
use Rattle.bep_run.specs.inner.Tickets.{IsLastIn}

-- what a seat knows that owns this object alone
abbrev pub alone : Object → List Stamped → View
alone object log = view (row object log ∷ []) [] []

-- Where there is a history, the seat owns this object alone, and the log has just those events of the history that touch it;
-- it didn't begin anew. Else nobody sits.
abbrev pub IsSeated : Option TableId → Object → ℕ → List Stamped → Option View → Type 0
IsSeated None object round log seat = seat ≡ None
IsSeated (Some table) object round log seat = (round ≡ 0) × (seat ≡ Some (alone object log))

-- A device behind its lock: it began as what stood at its place, its log is quiet, the seat knows the log, and the log has the
-- last ticket that was taken.
pub record IsKeptDevice (start : Option Network) (table : Option TableId) (place : ℕ) (logged : LoggedMember) (seat : Option View) : Type 0 where
  pub began : at_place (devices_in start) place (began_as logged) ≡ Some (began_as logged)
  pub quiet : quiet_log start logged.log ≡ true
  pub seated : IsSeated table (objects.Device logged.now.number) logged.round logged.log seat
  pub last : IsLastIn table logged.log logged.last

-- the same of a link
pub record IsKeptLink (start : Option Network) (table : Option TableId) (place : ℕ) (logged : LoggedBetween) (seat : Option View) : Type 0 where
  pub began : at_place (links_in start) place logged.base ≡ Some logged.base
  pub quiet : quiet_log start logged.log ≡ true
  pub seated : IsSeated table (objects.Link logged.now.ends.0 logged.now.ends.1) logged.round logged.log seat
  pub last : IsLastIn table logged.log logged.last

-- the devices and links of the cluster that all began as, where it is known
abbrev pub objects_in : Option Network → Option (List Object)
objects_in = option_map (λ network. objects_of (cluster_of network).config)

-- the devices, and the links
abbrev pub objects_of_peers : List Member → List Object
objects_of_peers = map (λ (member : Member). objects.Device member.number)

abbrev pub objects_of_links : List LinkBetween → List Object
objects_of_links = map (λ (link : LinkBetween). objects.Link link.ends.0 link.ends.1)

-- a history is about these, where it is known how all began
abbrev pub IsAbout : Option Network → List Object → Type 0
IsAbout start listed = named_or (objects_in start) listed ≡ listed

-- the seat owns these, each without an event, where there is a history; else nobody sits
abbrev pub IsFirstSeat : Option TableId → List Object → Option View → Type 0
IsFirstSeat None listed seat = seat ≡ None
IsFirstSeat (Some table) listed seat = seat ≡ Some (beginning listed)

-- the logs fit, where it is known how all began, and there is a history
abbrev pub DoFit : Option Network → Option TableId → List ObjectLog → Type 0
DoFit None table logs = Unit {0}
DoFit (Some origin) None logs = Unit {0}
DoFit (Some origin) (Some table) logs = (count : ℕ) × Fits logs count
