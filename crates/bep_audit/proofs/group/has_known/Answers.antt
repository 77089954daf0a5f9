use Rattle.bep_audit.proofs.GroupFacts.{has_entry}
use Rattle.bep_audit.proofs.group.has_known.Goals as goal

pub returns : goal.returns
returns c = has_entry c.is_empty.result c.args.group.now c.is_empty.ensures
