use Rattle.std.proofs.Common.{◌≡◌, Result, sym, subst}
use Rattle.bep_machine.specs.declared.moved.Moved.{Moved}
use Rattle.bep_model.specs.Tables.{Folder}
use Rattle.bep_peer.specs.declared.error.PeerError.{PeerError}
use Rattle.bep_peer.specs.Member.{Member}
use Rattle.bep_peer.specs.PeerError.{Gives}
use Rattle.bep_peer.specs.Unhidden.{IsUnrefusedWithin}
use Rattle.bep_peer.specs.Within.{StepWithin}
use Rattle.bep_core.specs.Unhidden.{TestsWithin}
use Rattle.bep_core.specs.inner.Within.{row_of}
use Rattle.bep_core.specs.declared.folder_steps.Within.{Within}
use Rattle.bep_core.proofs.folder_steps.make.Goals as goal

-- the device made what it was asked for
as_asked : (folder : Folder) (was after : Member) (result : Result Moved PeerError) {asked what : Within} → asked ≡ what →
    Gives (StepWithin folder (row_of what was.number after.trace.failed) was) after result → Gives (StepWithin folder (row_of asked was.number after.trace.failed) was) after result
as_asked folder was after result is made = subst (λ (step : Within). Gives (StepWithin folder (row_of step was.number after.trace.failed) was) after result) (sym is) made

pub returns-in-Edit-clause-step : goal.returns-in-Edit-clause-step
returns-in-Edit-clause-step g c = as_asked c.args.folder.now c.args.peer.now c.edit.new.self c.edit.result c.in-Edit.is c.edit.ensures.step

pub returns-in-Remove-clause-step : goal.returns-in-Remove-clause-step
returns-in-Remove-clause-step g c = as_asked c.args.folder.now c.args.peer.now c.remove.new.self c.remove.result c.in-Remove.is c.remove.ensures.step

pub returns-in-Scan-clause-step : goal.returns-in-Scan-clause-step
returns-in-Scan-clause-step g c = as_asked c.args.folder.now c.args.peer.now c.scan.new.self c.scan.result c.in-Scan.is c.scan.ensures.step

pub returns-in-Override-clause-step : goal.returns-in-Override-clause-step
returns-in-Override-clause-step g c = as_asked c.args.folder.now c.args.peer.now c.override_one.new.self c.override_one.result c.in-Override.is c.override_one.ensures.step

pub returns-in-Revert-clause-step : goal.returns-in-Revert-clause-step
returns-in-Revert-clause-step g c = as_asked c.args.folder.now c.args.peer.now c.revert_one.new.self c.revert_one.result c.in-Revert.is c.revert_one.ensures.step

pub returns-in-Pull-clause-step : goal.returns-in-Pull-clause-step
returns-in-Pull-clause-step g c = as_asked c.args.folder.now c.args.peer.now c.pull.new.self c.pull.result c.in-Pull.is c.pull.ensures.step

pub returns-in-Finish-clause-step : goal.returns-in-Finish-clause-step
returns-in-Finish-clause-step g c = as_asked c.args.folder.now c.args.peer.now c.finish.new.self c.finish.result c.in-Finish.is c.finish.ensures.step

pub returns-in-Edit-clause-unhidden : goal.returns-in-Edit-clause-unhidden
returns-in-Edit-clause-unhidden g c = λ wants tests. absurd (subst TestsWithin c.in-Edit.is tests)

pub returns-in-Remove-clause-unhidden : goal.returns-in-Remove-clause-unhidden
returns-in-Remove-clause-unhidden g c = λ wants tests. absurd (subst TestsWithin c.in-Remove.is tests)

pub returns-in-Scan-clause-unhidden : goal.returns-in-Scan-clause-unhidden
returns-in-Scan-clause-unhidden g c = λ wants tests. absurd (subst TestsWithin c.in-Scan.is tests)

pub returns-in-Override-clause-unhidden : goal.returns-in-Override-clause-unhidden
returns-in-Override-clause-unhidden g c = λ wants tests. absurd (subst TestsWithin c.in-Override.is tests)

pub returns-in-Revert-clause-unhidden : goal.returns-in-Revert-clause-unhidden
returns-in-Revert-clause-unhidden g c = λ wants tests. absurd (subst TestsWithin c.in-Revert.is tests)

pub returns-in-Finish-clause-unhidden : goal.returns-in-Finish-clause-unhidden
returns-in-Finish-clause-unhidden g c = λ wants tests. absurd (subst TestsWithin c.in-Finish.is tests)

pub returns-in-Pull-clause-unhidden : goal.returns-in-Pull-clause-unhidden
returns-in-Pull-clause-unhidden g c = λ wants tests.
    subst (λ (step : Within). IsUnrefusedWithin c.args.folder.now (row_of step c.args.peer.now.number c.pull.new.self.trace.failed) c.args.peer.now) (sym c.in-Pull.is) (c.pull.ensures.unhidden wants)
