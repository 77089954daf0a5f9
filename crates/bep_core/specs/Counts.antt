-- What a step tells of the stores: which device's store failed in it, and where that is answered (this project's profile).
use Rattle.std.specs.Prelude.{◌≡◌, ◌≢◌, ◌⊎◌, ⊤, ℕ, Option, Some, None, IsSome, Result, Ok, Err}
use Rattle.bep_model.specs.Tables.{Device}
use Rattle.bep_machine.specs.declared.message.Message.{Message}
use Rattle.bep_machine.specs.declared.message.Message.TheVariants.{Request}
use Rattle.bep_machine.specs.declared.moved.Moved.{Moved}
use Rattle.bep_machine.specs.declared.moved.Moved.TheVariants.{Changed}
use Rattle.bep_machine.specs.declared.refusal.Refusal.TheVariants.{StoreFault}
use Rattle.bep_machine.specs.declared.step.Step.{Step}
use Rattle.bep_machine.specs.declared.step.Step.TheVariants.{Edit, Remove, Scan, Override, Revert, Connect, Lose, Begin, Deliver, Announce, StartPull, Ask, Finish, Restart, Reset}
use Rattle.bep_machine.specs.Cluster.{Cluster, link_between}
use Rattle.bep_machine.specs.Link.{end_of, sight_of}
use Rattle.bep_peer.specs.network.Network.{Network, cluster_of, member_at}
use Rattle.bep_peer.specs.Member.{Member, Remains}
use Rattle.bep_core.specs.declared.why.Why.{Why}
use Rattle.bep_core.specs.declared.why.Why.TheVariants.{Refused, Memory}
use Rattle.bep_core.specs.Applying.{failed_by, maker_of}

-- ---- where a store's failure is answered

-- the first message on its way to the device is a request of the other one
abbrev pub IsRequest : Option Message → Type 0
IsRequest (Some (Request request)) = ⊤
IsRequest message = ⊥

abbrev pub AwaitsRequest : Device → Device → Cluster → Type 0
AwaitsRequest device other cluster = IsRequest (sight_of (end_of device other) (link_between cluster device other)).waiting

-- no call of a store failed, as the step makes none
abbrev pub CallsNone : Option ℕ → Result Moved Why → Type 0
CallsNone failed result = failed ≡ None

-- a failed call is told exactly where the store's fault is answered
abbrev pub AnswersFault : Option ℕ → Result Moved Why → Type 0
AnswersFault failed (Err (Refused StoreFault)) = IsSome failed
AnswersFault failed result = failed ≡ None

-- A delivery reads a store only to answer a request. If that one read failed, the response says so by its code, as the step
-- has it. (If memory is wanting for the response, the failure is told all the same.)
abbrev pub TellsRead : Type 0 → Option ℕ → Result Moved Why → Type 0
TellsRead requested failed (Ok Changed) = (failed ≡ None) ⊎ ((failed ≡ Some 1) × requested)
TellsRead requested failed (Err Memory) = (failed ≡ None) ⊎ (failed ≡ Some 1)
TellsRead requested failed result = failed ≡ None

abbrev pub TellsFault : Step → Cluster → Option ℕ → Result Moved Why → Type 0
TellsFault (Edit device folder name node) old = AnswersFault
TellsFault (Remove device folder name) old = AnswersFault
TellsFault (Scan device folder name) old = AnswersFault
TellsFault (Override device folder name) old = AnswersFault
TellsFault (Revert device folder name) old = AnswersFault
TellsFault (Connect one other) old = CallsNone
TellsFault (Lose one other) old = CallsNone
TellsFault (Begin device other) old = CallsNone
TellsFault (Deliver device other) old = TellsRead (AwaitsRequest device other old)
TellsFault (Announce device other folder) old = CallsNone
TellsFault (StartPull device folder name) old = AnswersFault
TellsFault (Ask device other folder name) old = CallsNone
TellsFault (Finish device folder name) old = AnswersFault
TellsFault (Restart device) old = CallsNone
TellsFault (Reset device id) old = CallsNone

-- ---- what the stores count

-- What the step tells of the stores is of this step: a call is told to have failed exactly where the count of a store of the
-- device that makes the step rose, and exactly where that is answered. Every other device is as before, with its counts.
pub record IsCounted (step : Step) (old new : Network) (result : Result Moved Why) : Type 0 where
  pub others : (other : Device) → maker_of step ≢ Some other → member_at new.members other ≡ member_at old.members other
  pub counted : (device : Device) (was now : Member) → maker_of step ≡ Some device → member_at old.members device ≡ Some was → member_at new.members device ≡ Some now → Remains was now
  pub told : TellsFault step (cluster_of old) (failed_by step new.members) result
