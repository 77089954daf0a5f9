use Rattle.bep_machine.proofs.UserEffect.{edit_puts, remove_takes}
use Rattle.bep_machine.proofs.effects.users_change_files.Goals as goal

pub returns : goal.returns
returns c = record { edit = edit_puts; remove = remove_takes }
