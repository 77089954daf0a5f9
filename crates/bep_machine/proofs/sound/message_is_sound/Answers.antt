use Rattle.std.proofs.Common.{sym, subst}
use Rattle.bep_machine.specs.Sound.{IsSoundMessage}
use Rattle.bep_machine.proofs.sound.message_is_sound.Goals as goal

pub returns-in-Index : goal.returns-in-Index
returns-in-Index c = subst IsSoundMessage (sym c.in-Index.is) (c.batch_is_sound.ensures.batch, c.batch_is_sound.ensures.good)

pub returns-in-IndexUpdate : goal.returns-in-IndexUpdate
returns-in-IndexUpdate c = subst IsSoundMessage (sym c.in-IndexUpdate.is) (c.batch_is_sound-in-IndexUpdate.ensures.batch, c.batch_is_sound-in-IndexUpdate.ensures.good)
