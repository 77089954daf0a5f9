use Rattle.bep_choice.proofs.Lent.{chosen_at, only_at}
use Rattle.bep_folder.proofs.pull.chosen.best.Goals as goal

pub returns-in-Some-clause-chosen : goal.returns-in-Some-clause-chosen
returns-in-Some-clause-chosen c =
    (c.index-candidates-place.result.0, chosen_at c.args.device c.args.candidates.now c.in-Some.place c.index-candidates-place.result c.in-Some.ensures.choice c.index-candidates-place.is)

pub returns-in-Some-clause-only : goal.returns-in-Some-clause-only
returns-in-Some-clause-only c = only_at c.args.device c.args.candidates.now c.in-Some.place c.index-candidates-place.result c.in-Some.ensures.choice c.index-candidates-place.is c.in-Some.ensures.only
