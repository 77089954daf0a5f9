use Rattle.bep_machine.proofs.BreachFacts.{breach_alone_loses_link}
use Rattle.bep_machine.proofs.ConfigEffect.{twice_loses_link}
use Rattle.bep_machine.proofs.TakingFacts.{unnamed_loses_link, second_config_loses_link, unshared_loses_link, old_update_loses_link}
use Rattle.bep_machine.proofs.link_effects.breach_loses_link.Goals as goal

pub returns : goal.returns
returns c = record {
  unnamed = unnamed_loses_link;
  second = second_config_loses_link;
  unshared = unshared_loses_link;
  twice = twice_loses_link;
  old = old_update_loses_link;
  alone = breach_alone_loses_link;
}
