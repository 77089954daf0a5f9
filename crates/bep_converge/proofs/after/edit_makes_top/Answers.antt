use Rattle.bep_converge.proofs.EditTops.{edit_makes_top_lem, touch_is_seen_lem}
use Rattle.bep_converge.proofs.after.edit_makes_top.Goals as goal

pub returns-clause-makes : goal.returns-clause-makes
returns-clause-makes c = edit_makes_top_lem c.users_change_files.ensures.edit c.steps_keep_sound.ensures c.scan_makes_top.ensures.makes

pub returns-clause-touch : goal.returns-clause-touch
returns-clause-touch c = touch_is_seen_lem
