use Rattle.bep_machine.proofs.OwnEvents.{devices_replay_their_own_lem, links_replay_their_own_lem}
use Rattle.bep_machine.proofs.halves.own_events_replay.Goals as goal

pub returns-clause-devices : goal.returns-clause-devices
returns-clause-devices c = devices_replay_their_own_lem

pub returns-clause-links : goal.returns-clause-links
returns-clause-links c = links_replay_their_own_lem
