use Rattle.std.proofs.Common.{map, sym, ◌∙◌, true≢false}
use Rattle.bep_tables.specs.Listed.{listed}
use Rattle.bep_converge_check.proofs.BehindFacts.{top_wins, no_winner, none_wins}
use Rattle.bep_converge_check.proofs.behind.winner_of.Goals as goal

pub returns-in-None : goal.returns-in-None
returns-in-None c = none_wins (map listed c.args.group.now) c.in-None.ensures.none

pub returns-then-all_agree : goal.returns-then-all_agree
returns-then-all_agree c = top_wins (map listed c.args.group.now) c.in-Some.top.now c.in-Some.ensures.top (c.all_agree.ensures.0 c.if-all_agree.true)

pub returns-else-all_agree : goal.returns-else-all_agree
returns-else-all_agree c =
    no_winner (map listed c.args.group.now) c.in-Some.top.now c.in-Some.ensures.top
    (λ all. true≢false (sym (c.all_agree.ensures.1 all) ∙ c.if-all_agree.false))
