use Rattle.bep_audit.proofs.CandidateFacts.{chooser_is_first}
use Rattle.bep_audit.proofs.candidates.first_device.Goals as goal

pub returns-in-len1-up : goal.returns-in-len1-up
returns-in-len1-up c = chooser_is_first c.args.shares.now c.first-item.result c.in-len1-up.len_at_least c.first-item.is c.requires
