use Rattle.bep_choice.proofs.Lent.{chosen_at, none_chosen, within}
use Rattle.bep_choice.specs.Choice.{candidates_of}
use Rattle.bep_audit.proofs.candidates.chosen.Goals as goal

pub bounds-candidates-place : goal.bounds-candidates-place
bounds-candidates-place c = within c.args.chooser c.args.candidates.now c.in-Some.place c.in-Some.ensures.choice

pub returns-in-Some-clause-wins : goal.returns-in-Some-clause-wins
returns-in-Some-clause-wins c = chosen_at c.args.chooser c.args.candidates.now c.in-Some.place c.index-candidates-place.result c.in-Some.ensures.choice c.index-candidates-place.is

pub returns-in-None-clause-none : goal.returns-in-None-clause-none
returns-in-None-clause-none c = none_chosen c.args.chooser (candidates_of c.args.candidates.now) c.in-None.ensures.found
