use Rattle.bep_machine.proofs.SessionEffect.{connect_opens, lose_empties, restart_forgets, reset_starts_over}
use Rattle.bep_machine.proofs.link_effects.links_come_and_go.Goals as goal

pub returns : goal.returns
returns c = record { connect = connect_opens; lose = lose_empties; restart = restart_forgets; reset = reset_starts_over }
