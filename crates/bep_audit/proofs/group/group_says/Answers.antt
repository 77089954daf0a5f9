use Rattle.bep_audit.proofs.FailingDevice.{asked_by_group}
use Rattle.bep_audit.proofs.GroupFacts.{known_by_group}
use Rattle.bep_audit.proofs.group.group_says.Goals as goal

pub returns-clause-known : goal.returns-clause-known
returns-clause-known c = λ cut key group is_cut is_group. known_by_group c.entries_are_held.ensures.held cut is_cut key group is_group c.entries_are_held.ensures.shares

pub returns-clause-asked : goal.returns-clause-asked
returns-clause-asked c = λ cut row group reason share is_cut is_group member. asked_by_group c.cut_says.ensures c.share_is_asked.ensures cut is_cut row c.entries_are_held.ensures.held group is_group reason share member
