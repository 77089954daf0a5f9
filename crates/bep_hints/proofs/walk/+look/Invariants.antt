use Rattle.bep_hints.proofs.walk.+look.Given as goal

-- each call goes down a level
abbrev pub decreases-look : goal.decreases-look
decreases-look l = l.levels
