use Rattle.std.proofs.Common.{sym, subst}
use Rattle.bep_peer.specs.inner.Call.{IsStepped}
use Rattle.bep_peer.specs.declared.within.steps.Step.{Step}
use Rattle.bep_peer.specs.declared.within.steps.Step.TheVariants.{Edit, Remove, Scan, Pull, Finish, Override, Revert}
use Rattle.bep_peer.proofs.Steady.{steady_step}
use Rattle.bep_peer.proofs.within.steps.StepCallMoved.make.Goals as goal

pub returns-in-Edit-clause-steady : goal.returns-in-Edit-clause-steady
returns-in-Edit-clause-steady g c = steady_step (Edit c.in-Edit.name c.in-Edit.node) _ _ _ c.edit.ensures.edited c.edit.ensures.stays c.edit.ensures.counted

pub returns-in-Remove-clause-steady : goal.returns-in-Remove-clause-steady
returns-in-Remove-clause-steady g c = steady_step (Remove c.in-Remove.name) _ _ _ c.remove.ensures.removed c.remove.ensures.stays c.remove.ensures.counted

pub returns-in-Scan-clause-steady : goal.returns-in-Scan-clause-steady
returns-in-Scan-clause-steady g c = steady_step (Scan c.in-Scan.name) _ _ _ c.scan.ensures.scanned c.scan.ensures.stays c.scan.ensures.counted

pub returns-in-Pull-clause-steady : goal.returns-in-Pull-clause-steady
returns-in-Pull-clause-steady g c = steady_step (Pull c.in-Pull.name) _ _ _ c.start_pull.ensures.started c.start_pull.ensures.stays c.start_pull.ensures.counted

pub returns-in-Finish-clause-steady : goal.returns-in-Finish-clause-steady
returns-in-Finish-clause-steady g c = steady_step (Finish c.in-Finish.name) _ _ _ c.finish.ensures.finished c.finish.ensures.stays c.finish.ensures.counted

pub returns-in-Override-clause-steady : goal.returns-in-Override-clause-steady
returns-in-Override-clause-steady g c = steady_step (Override c.in-Override.name) _ _ _ c.override_one.ensures.overridden c.override_one.ensures.stays c.override_one.ensures.counted

pub returns-in-Revert-clause-steady : goal.returns-in-Revert-clause-steady
returns-in-Revert-clause-steady g c = steady_step (Revert c.in-Revert.name) _ _ _ c.revert_one.ensures.reverted c.revert_one.ensures.stays c.revert_one.ensures.counted

pub returns-in-Finish-clause-does : goal.returns-in-Finish-clause-does
returns-in-Finish-clause-does g c =
    let done : IsStepped (Finish c.in-Finish.name) c.args.replica.now c.finish.new.self c.finish.result = record {
      made = c.finish.ensures.finished;
      told = record { copied = c.finish.ensures.copied; kept = c.finish.ensures.kept };
      unhidden = tt;
    } in
    subst (λ (step : Step). IsStepped step c.args.replica.now c.finish.new.self c.finish.result) (sym c.in-Finish.is) done
