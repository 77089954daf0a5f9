-- What becomes of the link between two devices, as the cluster's steps have it (this project's profile).
use Rattle.bep_model.specs.Tables.{Device}
use Rattle.bep_machine.specs.declared.step.Step.{Step}
use Rattle.bep_machine.specs.declared.step.Step.TheVariants as steps
use Rattle.bep_machine.specs.Answer.{Row}
use Rattle.bep_machine.specs.Link.{Link}
use Rattle.bep_machine.specs.Steps.{ConnectRow, LoseRow}
use Rattle.bep_core.specs.declared.link_steps.Between.{Between}
use Rattle.bep_core.specs.declared.link_steps.Between.TheVariants.{Connect, Lose}

-- the step of the cluster
abbrev pub step_of : Between → Device → Device → Step
step_of Connect lower upper = steps.Connect lower upper
step_of Lose lower upper = steps.Lose lower upper

-- the row that the link makes
abbrev pub row_of : Between → Link → Row Link
row_of Connect = ConnectRow
row_of Lose = LoseRow
