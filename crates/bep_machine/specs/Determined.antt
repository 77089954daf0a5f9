-- A run is determined by its steps and by which calls of stores fail in them: each leads from a sound cluster to one
-- cluster, with one answer, where memory isn't wanting. A replay is determined by its base and its events (this project's
-- profile).
use Rattle.std.specs.Prelude.{◌≡◌, ◌≢◌, ℕ, ⊤, List, [], ◌∷◌, Option, Some, Contains}
use Rattle.std.specs.FinMap.{get}
use Rattle.bep_model.specs.Tables.{Device, Folder}
use Rattle.bep_machine.specs.declared.step.Step.{Step}
use Rattle.bep_machine.specs.Answer.{Answer, OutOfMemory}
use Rattle.bep_machine.specs.Replica.{Replica}
use Rattle.bep_machine.specs.Peer.{Peer}
use Rattle.bep_machine.specs.Link.{Link}
use Rattle.bep_machine.specs.Cluster.{Cluster}
use Rattle.bep_machine.specs.declared.logged.Logged.{Logged}
use Rattle.bep_machine.specs.Halves.{PeerReplays, LinkReplays}
use Rattle.bep_machine.specs.Steps.{IsStep, Event, IsRun}
use Rattle.bep_machine.specs.Sound.{IsSound}
use Rattle.bep_machine.specs.Laws.{AreSound}

-- a step with the same failing call of the store leads to one cluster, with one answer
abbrev pub StepsAreDetermined : Type 0
StepsAreDetermined = (step : Step) (failed : Option ℕ) (old one other : Cluster) (answer reply : Answer) →
    IsSound old → IsStep step failed old one answer → IsStep step failed old other reply →
    answer ≢ OutOfMemory → reply ≢ OutOfMemory → (one ≡ other) × (answer ≡ reply)

-- memory was wanting in none
abbrev pub HadMemory : List Event → Type 0
HadMemory [] = ⊤
HadMemory (event ∷ more) = (event.answer ≢ OutOfMemory) × HadMemory more

-- the same steps, and in each the same call of the store failed, if any
abbrev pub HaveSameSteps : List Event → List Event → Type 0
HaveSameSteps [] [] = ⊤
HaveSameSteps (one ∷ more) (other ∷ rest) = (one.step ≡ other.step) × (one.failed ≡ other.failed) × HaveSameSteps more rest
HaveSameSteps _ _ = ⊥

-- two runs of the same steps, whose edits put nodes, lead from a sound cluster to one cluster, and each step has one answer
abbrev pub RunsAreDetermined : Type 0
RunsAreDetermined = (old one other : Cluster) (events others : List Event) →
    IsSound old → AreSound events → HaveSameSteps events others → HadMemory events → HadMemory others →
    IsRun old events one → IsRun old others other → (one ≡ other) × (events ≡ others)

-- ---- replays

-- the device isn't among those others with which it shares a folder
abbrev pub SharesWithOthers : Device → Peer → Type 0
SharesWithOthers device peer =
    (folder : Folder) (replica : Replica) → get peer.replicas folder ≡ Some replica → ¬ Contains replica.others device

-- two replays of one base by one list of events end in one state
abbrev pub DevicesReplayOneWay : Type 0
DevicesReplayOneWay = (device : Device) (old one other : Peer) (logged : List Logged) → SharesWithOthers device old →
    PeerReplays device old logged one → PeerReplays device old logged other → one ≡ other

abbrev pub LinksReplayOneWay : Type 0
LinksReplayOneWay = (lower upper : Device) (old one other : Link) (logged : List Logged) →
    LinkReplays lower upper old logged one → LinkReplays lower upper old logged other → one ≡ other
