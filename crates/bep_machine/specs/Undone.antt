-- What a step that isn't done leaves: all as before, save that the end of a pull may have kept a conflict copy (this
-- project's profile). The function of src/undone.rt has this as its contract.
use Rattle.std.specs.Prelude.{◌≡◌, ◌⊎◌, ℕ, Option, Some, None}
use Rattle.std.specs.FinMap.{get}
use Rattle.bep_model.specs.Tables.{Device, FileName}
use Rattle.bep_machine.specs.declared.step.Step.{Step}
use Rattle.bep_machine.specs.declared.step.Step.TheVariants.{Edit, Remove, Scan, Override, Revert, Connect, Lose, Begin, Deliver, Announce, StartPull, Ask, Finish, Restart, Reset}
use Rattle.bep_machine.specs.Answer.{Answer}
use Rattle.bep_machine.specs.Cluster.{Cluster, with_peer}
use Rattle.bep_machine.specs.Halves.{IsDone}
use Rattle.bep_machine.specs.Peer.{with_replica}
use Rattle.bep_machine.specs.Pull.{IsStillWanted, IsConflictDue, copy_name}
use Rattle.bep_machine.specs.Replica.{Pull, Replica, own_at, node_at, pull_at, with_node}
use Rattle.bep_machine.specs.Steps.{IsStep}

-- a conflict copy is due of a pull that is still wanted, and the losing file stands under the conflict name, where nothing
-- stood; that is all
abbrev pub KeepsCopy : Device → FileName → Replica → Replica → Type 0
KeepsCopy device name old new =
    (pull : Pull) × (pull_at old name ≡ Some pull) × IsStillWanted device old name pull.target × IsConflictDue (own_at old name) pull.target ×
    (node_at old (copy_name (own_at old name)) ≡ None) × (new ≡ with_node old (copy_name (own_at old name)) (node_at old name))

-- all is as before, save that the end of a pull may have kept a conflict copy
abbrev pub LeavesAll : Step → Cluster → Cluster → Type 0
LeavesAll (Edit device folder name node) old new = new ≡ old
LeavesAll (Remove device folder name) old new = new ≡ old
LeavesAll (Scan device folder name) old new = new ≡ old
LeavesAll (Override device folder name) old new = new ≡ old
LeavesAll (Revert device folder name) old new = new ≡ old
LeavesAll (Connect one other) old new = new ≡ old
LeavesAll (Lose one other) old new = new ≡ old
LeavesAll (Begin device other) old new = new ≡ old
LeavesAll (Deliver device other) old new = new ≡ old
LeavesAll (Announce device other folder) old new = new ≡ old
LeavesAll (StartPull device folder name) old new = new ≡ old
LeavesAll (Ask device other folder name) old new = new ≡ old
LeavesAll (Finish device folder name) old new =
    (new ≡ old) ⊎ ((before after : Replica) × (get (old.peer device).replicas folder ≡ Some before) × KeepsCopy device name before after ×
    (new ≡ with_peer old device (with_replica (old.peer device) folder after)))
LeavesAll (Restart device) old new = new ≡ old
LeavesAll (Reset device id) old new = new ≡ old

-- a step that is refused, or wants memory
abbrev pub UndoneStepsLeaveAll : Type 0
UndoneStepsLeaveAll = (step : Step) (failed : Option ℕ) (old new : Cluster) (answer : Answer) →
    IsStep step failed old new answer → ¬ IsDone answer → LeavesAll step old new
