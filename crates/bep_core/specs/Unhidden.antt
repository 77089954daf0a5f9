-- What want of memory doesn't hide in a step of a cluster (this project's profile).
use Rattle.std.specs.Prelude.{⊤, ℕ, Option, Result, IsErrOf}
use Rattle.bep_machine.specs.declared.moved.Moved.{Moved}
use Rattle.bep_machine.specs.declared.step.Step.{Step}
use Rattle.bep_machine.specs.declared.step.Step.TheVariants.{Edit, Remove, Scan, Override, Revert, Connect, Lose, Begin, Deliver, Announce, StartPull, Ask, Finish, Restart, Reset}
use Rattle.bep_machine.specs.Cluster.{Cluster}
use Rattle.bep_machine.specs.Steps.{IsStep}
use Rattle.bep_folder.specs.Unhidden.{RefusesNone}
use Rattle.bep_core.specs.declared.folder_steps.Within.{Within}
use Rattle.bep_core.specs.declared.folder_steps.Within.TheVariants as within
use Rattle.bep_core.specs.declared.why.Why.{Why}
use Rattle.bep_core.specs.declared.why.Why.TheVariants.{Memory}

-- A step that tests all that may refuse it before it allocates anything. (The others read a store first, whose answer takes
-- memory, or take no memory at all; an override makes the new record first.)
abbrev pub TestsFirst : Step → Type 0
TestsFirst (Edit device folder name node) = ⊥
TestsFirst (Remove device folder name) = ⊥
TestsFirst (Scan device folder name) = ⊥
TestsFirst (Override device folder name) = ⊥
TestsFirst (Revert device folder name) = ⊥
TestsFirst (Connect one other) = ⊥
TestsFirst (Lose one other) = ⊥
TestsFirst (Begin device other) = ⊤
TestsFirst (Deliver device other) = ⊤
TestsFirst (Announce device other folder) = ⊤
TestsFirst (StartPull device folder name) = ⊤
TestsFirst (Ask device other folder name) = ⊤
TestsFirst (Finish device folder name) = ⊥
TestsFirst (Restart device) = ⊥
TestsFirst (Reset device id) = ⊥

-- so of what a device does within a folder
abbrev pub TestsWithin : Within → Type 0
TestsWithin (within.Edit name node) = ⊥
TestsWithin (within.Remove name) = ⊥
TestsWithin (within.Scan name) = ⊥
TestsWithin (within.Override name) = ⊥
TestsWithin (within.Revert name) = ⊥
TestsWithin (within.Pull name) = ⊤
TestsWithin (within.Finish name) = ⊥

-- where such a step wants memory, nothing refuses it
abbrev pub HidesNone : Step → Option ℕ → Cluster → Result Moved Why → Type 0
HidesNone step failed old result = IsErrOf result Memory → TestsFirst step → RefusesNone (IsStep step failed old)
