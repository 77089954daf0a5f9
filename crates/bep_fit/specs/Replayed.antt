-- That logs lead from one cluster to another: each object is what its log makes of its base (this project's profile).
use Rattle.std.specs.Prelude.{◌≡◌, List, ◌++◌, map, Contains}
use Rattle.bep_model.specs.Tables.{Device}
use Rattle.bep_machine.specs.Cluster.{Config, Cluster}
use Rattle.bep_machine.specs.Halves.{PeerReplays, LinkReplays}
use Rattle.bep_machine.specs.Laws.{AreAmong, IsSoundStep}
use Rattle.bep_machine.specs.Link.{lost}
use Rattle.bep_machine.specs.Steps.{IsQuiet, reset_by}
use Rattle.bep_fit.specs.declared.object.Object.{Object}
use Rattle.bep_fit.specs.declared.object.Object.TheVariants as objects
use Rattle.bep_fit.specs.declared.stamped.Stamped.{Stamped}
use Rattle.bep_fit.specs.Logs.{ObjectLog, events_of}

-- what has a log: each device and each link of the configuration, devices first
abbrev pub objects_of : Config → List Object
objects_of config =
    map (λ (device : Device). objects.Device device) config.devices ++ map (λ (ends : Device × Device). objects.Link ends.0 ends.1) config.links

-- the events lead from what the object is in one cluster to what it is in the other
abbrev pub ObjectReplays : Cluster → Cluster → Object → List Stamped → Type 0
ObjectReplays old new (objects.Device device) events = PeerReplays device (old.peer device) (events_of events) (new.peer device)
ObjectReplays old new (objects.Link lower upper) events = LinkReplays lower upper (old.link lower upper) (events_of events) (new.link lower upper)

-- There is a log for each object of the cluster, in order, and it leads from the object's base to its present state. Devices
-- and links that aren't there stay as they are, and such a link has nothing to lose.
pub record AreReplayed (logs : List ObjectLog) (bases present : Cluster) : Type 0 where
  pub config : present.config ≡ bases.config
  pub objects : map (λ (log : ObjectLog). log.object) logs ≡ objects_of bases.config
  pub replayed : (log : ObjectLog) → Contains logs log → ObjectReplays bases present log.object log.events
  pub no_device : (device : Device) → ¬ Contains bases.config.devices device → present.peer device ≡ bases.peer device
  pub no_link : (lower upper : Device) → ¬ Contains bases.config.links (lower, upper) →
      (present.link lower upper ≡ bases.link lower upper) × (lost (bases.link lower upper) ≡ bases.link lower upper)

-- what edits put are nodes
abbrev pub AreSoundLogs : List ObjectLog → Type 0
AreSoundLogs logs = (log : ObjectLog) (one : Stamped) → Contains logs log → Contains log.events one → IsSoundStep one.event.step

-- no event is a local step
abbrev pub AreQuietLogs : List ObjectLog → Type 0
AreQuietLogs logs = (log : ObjectLog) (one : Stamped) → Contains logs log → Contains log.events one → IsQuiet one.event.step

-- no device but these is reset
abbrev pub AreResetOf : List ObjectLog → List Device → Type 0
AreResetOf logs reset =
    (log : ObjectLog) (one : Stamped) → Contains logs log → Contains log.events one → AreAmong (reset_by one.event.step) reset
