use Rattle.bep_scenario.proofs.step.take_behind.Goals as goal

pub returns-in-Edit-clause-value : goal.returns-in-Edit-clause-value
returns-in-Edit-clause-value c = rw c.in-Edit.is c.take_edit.ensures.value

pub returns-in-OfName-clause-value : goal.returns-in-OfName-clause-value
returns-in-OfName-clause-value c = rw c.in-OfName.is c.take_of_name.ensures.value

pub returns-in-OfPair-clause-value : goal.returns-in-OfPair-clause-value
returns-in-OfPair-clause-value c = rw c.in-OfPair.is c.take_of_pair.ensures.value

pub returns-in-Announce-clause-value : goal.returns-in-Announce-clause-value
returns-in-Announce-clause-value c = rw c.in-Announce.is c.take_announce.ensures.value

pub returns-in-Ask-clause-value : goal.returns-in-Ask-clause-value
returns-in-Ask-clause-value c = rw c.in-Ask.is c.take_ask.ensures.value

pub returns-in-Restart-clause-value : goal.returns-in-Restart-clause-value
returns-in-Restart-clause-value c = rw c.in-Restart.is c.take_restart.ensures.value

pub returns-in-Reset-clause-value : goal.returns-in-Reset-clause-value
returns-in-Reset-clause-value c = rw c.in-Reset.is c.take_reset.ensures.value
