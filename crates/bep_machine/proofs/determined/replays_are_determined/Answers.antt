use Rattle.bep_machine.proofs.OneReplay.{devices_replay_one_way_lem, links_replay_one_way_lem}
use Rattle.bep_machine.proofs.determined.replays_are_determined.Goals as goal

pub returns-clause-devices : goal.returns-clause-devices
returns-clause-devices c = devices_replay_one_way_lem c.choice_is_unique.ensures c.merge_exists.ensures.unique c.bump_exists.ensures.unique

pub returns-clause-links : goal.returns-clause-links
returns-clause-links c = links_replay_one_way_lem
