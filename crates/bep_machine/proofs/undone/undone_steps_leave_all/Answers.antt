use Rattle.bep_machine.proofs.UndoneSteps.{undone_steps_leave_all_lem}
use Rattle.bep_machine.proofs.undone.undone_steps_leave_all.Goals as goal

pub returns : goal.returns
returns c = undone_steps_leave_all_lem
