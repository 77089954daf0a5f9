use Rattle.std.proofs.Common.{arith}
use Rattle.std.proofs.lemmas.Grind.{common_steps}
use Rattle.bep_folder.proofs.KnownFacts.{increasing_with}
use Rattle.bep_folder.proofs.pull.chosen.place_among.Goals as goal

pub returns-then-gt-clause-rise : goal.returns-then-gt-clause-rise
returns-then-gt-clause-rise c =
    increasing_with c.args.device c.args.others.now c.loop-place.place c.requires.rise c.loop-place.invariant (λ within. grind (arith, common_steps))
