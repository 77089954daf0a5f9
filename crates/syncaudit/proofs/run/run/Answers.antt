use Rattle.std.proofs.Common.{map, inr, refl}
use Rattle.bep_words.specs.declared.mode.Goal.TheVariants as goals
use Rattle.bep_words.specs.declared.mode.Ending.TheVariants.{Report}
use Rattle.bep_words.specs.declared.mode.Mode.TheVariants.{Check, Converge, Firm, Rows, Run}
use Rattle.bep_words.specs.declared.mode.Under.TheVariants.{Given, Winners}
use Rattle.syncaudit.proofs.SaysFacts.{said}
use Rattle.syncaudit.proofs.StatusFacts.{followed_without_memory}
use Rattle.syncaudit.proofs.run.run.Goals as goal

pub returns-in-Err-Memory-clause-followed : goal.returns-in-Err-Memory-clause-followed
returns-in-Err-Memory-clause-followed g c = followed_without_memory _ _ c.end.ensures.heard c.faultless_words_ask.ensures (map g.S.AsStr.text c.args.words.now) _ _ _ c.end.ensures.status

pub returns-in-Ok-clause-followed : goal.returns-in-Ok-clause-followed
returns-in-Ok-clause-followed g c = λ none. (c.in-Ok.mode, c.in-Ok.ensures.asked, c.follow.ensures.done)

pub returns-in-Ok-clause-unfollowed : goal.returns-in-Ok-clause-unfollowed
returns-in-Ok-clause-unfollowed g c = λ at_fault. absurd (at_fault c.in-Ok.ensures.faultless)

pub returns-in-Ok-clause-end : goal.returns-in-Ok-clause-end
returns-in-Ok-clause-end g c = inr (c.in-Ok.mode, c.in-Ok.ensures.asked, c.follow.ensures.done)

pub returns-in-Ok-clause-settled : goal.returns-in-Ok-clause-settled
returns-in-Ok-clause-settled g c = said _ _ _ (map g.S.AsStr.text c.args.words.now) c.in-Ok.mode (Check Given) c.in-Ok.ensures.asked c.follow.ensures.says

pub returns-in-Ok-clause-settled_under_winners : goal.returns-in-Ok-clause-settled_under_winners
returns-in-Ok-clause-settled_under_winners g c = said _ _ _ (map g.S.AsStr.text c.args.words.now) c.in-Ok.mode (Check Winners) c.in-Ok.ensures.asked c.follow.ensures.says

pub returns-in-Ok-clause-firm : goal.returns-in-Ok-clause-firm
returns-in-Ok-clause-firm g c = said _ _ _ (map g.S.AsStr.text c.args.words.now) c.in-Ok.mode (Firm Given) c.in-Ok.ensures.asked c.follow.ensures.says

pub returns-in-Ok-clause-firm_under_winners : goal.returns-in-Ok-clause-firm_under_winners
returns-in-Ok-clause-firm_under_winners g c = said _ _ _ (map g.S.AsStr.text c.args.words.now) c.in-Ok.mode (Firm Winners) c.in-Ok.ensures.asked c.follow.ensures.says

pub returns-in-Ok-clause-converging : goal.returns-in-Ok-clause-converging
returns-in-Ok-clause-converging g c = said _ _ _ (map g.S.AsStr.text c.args.words.now) c.in-Ok.mode Converge c.in-Ok.ensures.asked c.follow.ensures.says

pub returns-in-Ok-clause-settled_rows : goal.returns-in-Ok-clause-settled_rows
returns-in-Ok-clause-settled_rows g c = λ told. said _ _ _ (map g.S.AsStr.text c.args.words.now) c.in-Ok.mode (Rows goals.Settled told) c.in-Ok.ensures.asked c.follow.ensures.says

pub returns-in-Ok-clause-firm_rows : goal.returns-in-Ok-clause-firm_rows
returns-in-Ok-clause-firm_rows g c = λ told. said _ _ _ (map g.S.AsStr.text c.args.words.now) c.in-Ok.mode (Rows goals.Firm told) c.in-Ok.ensures.asked c.follow.ensures.says

pub returns-in-Ok-clause-converging_rows : goal.returns-in-Ok-clause-converging_rows
returns-in-Ok-clause-converging_rows g c = λ told. said _ _ _ (map g.S.AsStr.text c.args.words.now) c.in-Ok.mode (Rows goals.Converging told) c.in-Ok.ensures.asked c.follow.ensures.says

pub returns-in-Ok-clause-ends_settled : goal.returns-in-Ok-clause-ends_settled
returns-in-Ok-clause-ends_settled g c = λ asks zero. (said _ _ _ (map g.S.AsStr.text c.args.words.now) c.in-Ok.mode (Run Report 0) c.in-Ok.ensures.asked c.follow.ensures.says asks zero).0 refl

pub returns-in-Ok-clause-lives_settled : goal.returns-in-Ok-clause-lives_settled
returns-in-Ok-clause-lives_settled g c = λ turns asks some zero. (said _ _ _ (map g.S.AsStr.text c.args.words.now) c.in-Ok.mode (Run Report turns) c.in-Ok.ensures.asked c.follow.ensures.says asks zero).1 some
