-- What a round is: a quiet run that brings what prevails of a name to a device (this project's profile).
use Rattle.std.specs.Prelude.{◌≡◌, ◌≤◌, ◌∷◌, ℕ, ⊤, List, Option, Some, None, IsSome, Result, Ok, Err}
use Rattle.bep_record.specs.declared.entry.Entry.{Entry}
use Rattle.bep_model.specs.Tables.{Device}
use Rattle.bep_machine.specs.Cluster.{Cluster}
use Rattle.bep_machine.specs.Laws.{AreSound}
use Rattle.bep_machine.specs.Said.{tables_of_cluster}
use Rattle.bep_machine.specs.Steps.{Event, IsRun, AreQuiet, HasNoReset}
use Rattle.bep_peer.specs.Member.{Member}
use Rattle.bep_peer.specs.network.Network.{failed_at}
use Rattle.bep_converge.specs.Prevails.{IsAtTop}
use Rattle.bep_converge.specs.Rises.{GoesOnPrevailing}
use Rattle.bep_converge.specs.Ended.{IsEnded}
use Rattle.bep_converge.specs.Arrival.{Behind, HasAllBehind, IsKept}
use Rattle.bep_converge.specs.Bring.{bring, most_batches, most_blocks}
use Rattle.bep_rounds.specs.declared.error.RoundError.{RoundError}
use Rattle.bep_rounds.specs.declared.error.RoundError.TheVariants.{Refused, StoreFault, Memory}
use Rattle.bep_rounds.specs.declared.wanted.Wanted.{Wanted}

-- ---- what is made in any case

-- a quiet run without a reset leads from the one cluster to the other
pub record IsQuietRun (old new : Cluster) : Type 0 where
  pub events : List Event
  pub nodes : AreSound events
  pub run : IsRun old events new
  pub quiet : AreQuiet events
  pub unreset : HasNoReset events

-- ---- what keeps a round from its end

-- a call of a device's store failed in the device's last action
abbrev pub HasStoreFault : List Member → Type 0
HasStoreFault members = (device : Device) × IsSome (failed_at members device)

-- memory is wanting, or a call of a store failed; no step is refused
abbrev pub IsOutside : List Member → RoundError → Type 0
IsOutside members (Refused refusal) = ⊥
IsOutside members StoreFault = HasStoreFault members
IsOutside members Memory = ⊤

-- this is so, unless something outside kept it from that
abbrev pub IfMade : List Member → Result (Unit {0}) RoundError → Type 0 → Type 0
IfMade members (Ok made) so = so
IfMade members (Err error) so = IsOutside members error

-- ---- what a round makes

-- the device isn't at the top of the name
abbrev pub behind_of : Wanted → Entry → Behind
behind_of wanted top = record { device = wanted.device; folder = wanted.folder; name = wanted.name; top = top }

-- The run that brings the name was made, and then the device is at the top. The cluster is ready for the other rounds, and each
-- other name, and this one at each other device, has the very record and file that it had. Of a list of all devices that aren't at
-- the top of a name this one is off, and no other has come.
pub record IsBrought (turns : ℕ) (old new : Cluster) (wanted : Wanted) (top : Entry) : Type 0 where
  pub batches : ℕ
  pub blocks : ℕ
  pub run : IsRun old (bring wanted.device wanted.owner wanted.folder wanted.name batches blocks) new
  pub few_batches : batches ≤ most_batches top
  pub few_blocks : blocks ≤ most_blocks top
  pub at_top : IsAtTop ((tables_of_cluster new).own wanted.device wanted.folder wanted.name) top
  pub kept : IsKept turns old new wanted.device wanted.folder wanted.name
  pub fewer : (more : List Behind) → HasAllBehind (tables_of_cluster old) (behind_of wanted top ∷ more) → HasAllBehind (tables_of_cluster new) more

-- ---- what all rounds make

-- nothing is left to be brought, and this is so, unless something outside kept it from that
abbrev pub IfAllMade : List Member → Result (Option Wanted) RoundError → Type 0 → Type 0
IfAllMade members (Ok None) so = so
IfAllMade members (Ok (Some left)) so = ⊥
IfAllMade members (Err error) so = IsOutside members error

-- All devices are at the top of every name. What prevailed does still, no name has come, and each device has the very record and
-- file that it had, or its name rose. Who shares what, and which links there are, is as before.
pub record IsAllBrought (old new : Cluster) : Type 0 where
  pub ended : IsEnded (tables_of_cluster new)
  pub goes : GoesOnPrevailing (tables_of_cluster old) (tables_of_cluster new)
  pub config : new.config ≡ old.config
